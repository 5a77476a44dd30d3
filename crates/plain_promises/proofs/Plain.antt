-- Request 9/12 of calls, runs of frames among them. Assumes nothing.
use native.Mathlib.Omega.{arith}
use Rattle.promises.specs.Runs.{set_up, makes}
use Rattle.promises.proofs.Calls.{standing_new}
use Rattle.promises.proofs.Turns.{standing_makes}
use Rattle.promises.proofs.Makes.{count_makes}
use Rattle.plain_promises.specs.Plain.{Plain}
use Rattle.plain_promises.proofs.Same.{same_engine}
use Rattle.plain_promises.proofs.Shapes.{shaped, new_shaped}
use Rattle.plain_promises.proofs.Rests.{poured_all}
use Rattle.plain_promises.proofs.Members.{members}
use Rattle.plain_promises.proofs.Turns.{beside_in_turn}

pub plain : Plain
plain = record {
  same_engine = same_engine;
  members = λ count p m ok hs j below k sh.
      members (makes (set_up count p m) hs) (standing_makes (set_up count p m) hs (standing_new count p m)) j (omega (arith, below, count_makes count p m ok hs)) k sh;
  shaped = shaped;
  new_shaped = new_shaped;
  poured = poured_all;
  in_turn = beside_in_turn;
}

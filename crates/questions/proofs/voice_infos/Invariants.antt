use Rattle.walks.proofs.Lists.Loops.{Walk}
use Rattle.channel.specs.Channels.{live}
use Rattle.questions.specs.Questions.{figures_of}
use Rattle.questions.proofs.Infos.{filled}
use Rattle.questions.proofs.voice_infos.Given as goal

abbrev pub invariant-loop-i : goal.invariant-loop-i
invariant-loop-i l =
    let f = figures_of l.params l.first l.c in
    Walk (filled f l.initial.infos 0 (live l.c)) (filled f l.infos l.i) l.c.voices l.n l.i

-- `places_by` meets its contract: either way does. Assumes nothing.
use mathlib.Core.Path.{ap, ◌∙◌}
use Rattle.pours.specs.Steady.{mode_by}
use Rattle.pours.proofs.places_by.Goals as goal

pub places_up-requires : goal.places_up-requires
places_up-requires c =
    (c.way_of-way.ensures ∙ ap mode_by c.in-Up.is, c.requires.1, c.requires.2)

pub places_down-requires : goal.places_down-requires
places_down-requires c =
    (c.way_of-way.ensures ∙ ap mode_by c.in-Down.is, c.requires.1, c.requires.2)

pub places_fold-requires : goal.places_fold-requires
places_fold-requires c =
    (c.way_of-way.ensures ∙ ap mode_by c.in-Fold.is, c.requires.1, c.requires.2)

use Rattle.std.proofs.Common.{ap, ◌∙◌, map}
use Rattle.gv_track.specs.Roles.{levels_in}
use Rattle.gv_track.proofs.Levels.{no_levels}
use Rattle.gv_track.proofs.track.Track.new.Goals as goal

pub returns : goal.returns
returns c = ap (map levels_in) (c.in_ok-vec.ensures.items_if_clones_equal (λ y same. same)) ∙ no_levels c.args.frames

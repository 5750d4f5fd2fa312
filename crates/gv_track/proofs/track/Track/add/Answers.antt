use Rattle.std.proofs.Common.{◌≡◌, map, set, true}
use Rattle.gv_track.specs.Roles.{levels_in, with_role}
use Rattle.gv_track.proofs.Levels.{roles-set, within, changed}
use Rattle.gv_track.proofs.track.Track.add.Goals as goal

written : (c : goal.After-self-1) → map levels_in (set c.self.inside.roles.items c.args.frame c.with_level.result) ≡ with_role c.args.self.now c.args.frame c.args.level true
written c = roles-set c.self.inside.roles.items c.args.frame c.with_level.result c.index_mut-roles.result.now c.args.level true c.args.self.now c.self.view_is (within c.self.inside.roles.items c.args.frame c.args.self.now c.self.view_is c.requires.frame) c.index_mut-roles.ensures.value c.with_level.ensures.levels

pub returns-clause-after : goal.returns-clause-after
returns-clause-after c = written c

pub returns-clause-changes : goal.returns-clause-changes
returns-clause-changes c = changed c.self.inside.roles.items c.args.frame c.args.level true c.args.self.now _ c.self.view_is c.requires.frame (written c) c.requires.low c.requires.high

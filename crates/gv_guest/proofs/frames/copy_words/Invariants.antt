use Rattle.std.proofs.Common.{◌≡◌, ℕ, ◌+◌, ◌<◌, ◌≤◌, length, get_or}
use Rattle.gv_types.specs.Maps.{put}
use Rattle.gv_guest.proofs.frames.copy_words.Given as goal

-- the words before the index are copied, and nothing else is changed
abbrev pub invariant-loop-index : goal.invariant-loop-index
invariant-loop-index g l =
    let now = g.G.Gpu.state l.gpu in
    let start = g.G.Gpu.state l.fn.gpu in
    record {
      is : now ≡ record start { words = put start.words l.to (now.words l.to); pokes = now.pokes };
      front : (k : ℕ) → k < l.index → get_or (now.words l.to) k 0 ≡ get_or (start.words l.from) k 0;
      long : length (now.words l.to) ≡ 512;
      pokes : now.pokes ≤ start.pokes + l.index;
    }

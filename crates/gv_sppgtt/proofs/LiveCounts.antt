-- Live pages move with the nodes, call after call.
use Rattle.std.proofs.Common.{ℕ, ◌+◌, ◌-◌, ◌≡◌, refl, sym, ap, ◌∙◌, subst, arith}
use Rattle.gv_gpu.specs.Device.{Device}
use Rattle.gv_nodes.specs.NodeMap.{NodeMap}
use Rattle.gv_shape.specs.Shadow.{Pages}
use Rattle.gv_sppgtt.specs.Sound.{pages_in}
use Rattle.gv_sppgtt.specs.Grown.{count_of}
use Rattle.gv_sppgtt.specs.State.{LiveFollows}

pub live-none : (frames : ℕ) (d : Device) (p : Pages) → LiveFollows frames d d p p
live-none frames d p = record { others = refl; exact = λ low. refl }

pub live_trans : (frames : ℕ) (d e f : Device) (p q r : Pages) → LiveFollows frames d e p q → LiveFollows frames e f q r → LiveFollows frames d f p r
live_trans frames d e f p q r first second = record {
  others = second.others ∙ first.others;
  exact = λ low. let a = first.exact low in let b = second.exact (omega arith) in omega arith;
}

-- the nodes keep their pages, and no page comes or goes
pub live-same : (frames : ℕ) (d e : Device) (p q : Pages) → e.live ≡ d.live → q ≡ p → LiveFollows frames d e p q
live-same frames d e p q live same = subst (λ (r : Pages). LiveFollows frames d e p r) (sym same) (record { others = omega arith; exact = λ low. omega arith })

pub live-nodes : (frames : ℕ) (d e : Device) (s r : NodeMap) → e.live ≡ d.live → r ≡ s → LiveFollows frames d e (pages_in s) (pages_in r)
live-nodes frames d e s r live same = live-same frames d e (pages_in s) (pages_in r) live (ap pages_in same)

-- one node more, and one page
pub live-more : (frames : ℕ) (d e : Device) (p q : Pages) → e.live ≡ d.live + 1 → count_of frames q ≡ count_of frames p + 1 → LiveFollows frames d e p q
live-more frames d e p q live more = record { others = omega arith; exact = λ low. omega arith }

-- one node less, and one page, if there was one
pub live-less : (frames : ℕ) (d e : Device) (p q : Pages) → e.live ≡ d.live - 1 → count_of frames p ≡ count_of frames q + 1 → LiveFollows frames d e p q
live-less frames d e p q live less = record { others = omega arith; exact = λ low. omega arith }

-- How far the caller was told of the frames that became tables and that no longer are.
use Rattle.std.specs.Prelude.{ℕ, ◌≡◌, not, ◌&&◌, nat_lt, if◌then◌else◌, List, filter}
use Rattle.std.specs.List.{range_with_len}
use Rattle.gv_gpu.specs.Device.{Device}
use Rattle.gv_gpu.specs.Part.{outside}
use Rattle.gv_guest.specs.Placed.{Placed, memory_in}
use Rattle.gv_sppgtt.specs.Sound.{flag}
use Rattle.gv_sppgtt.specs.State.{pages_of, readings_of, own_part, is_table}
use Rattle.gv_sppgtt.specs.declared.tables.Tables.{Tables}

-- From d and t on, the frames below `done` were told of; nothing changed but their leaves' words.
pub record Telling (placed : Placed) (d : Device) (t : Tables) (done : ℕ) (e : Device) (u : Tables) (came went : List ℕ) : Type 0 where
  pub told : (f : ℕ) → flag u.told.items f ≡ (if nat_lt f done then is_table (pages_of t) f else flag t.told.items f)
  pub guarded : came ≡ filter (λ f. not (flag t.told.items f) && is_table (pages_of t) f) (range_with_len 0 done)
  pub unguarded : went ≡ filter (λ f. flag t.told.items f && not (is_table (pages_of t) f)) (range_with_len 0 done)
  pub nodes : u.nodes ≡ t.nodes
  pub readings : (k f i : ℕ) → readings_of e u k f i ≡ readings_of d t k f i
  pub memory : memory_in e placed ≡ memory_in d placed
  pub others : outside (own_part placed.guest u) e ≡ outside (own_part placed.guest t) d
  pub guest : u.guest ≡ t.guest
  pub touched : u.touched ≡ t.touched

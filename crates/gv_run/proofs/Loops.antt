-- Inputs over the shared device, one after another.
use Rattle.std.proofs.Common.{◌≡◌, ℕ, zero, suc, ◌+◌, ◌*◌, ◌%◌, ◌<◌, ◌≤◌, Bool, true, false, cond, eqb, lit<, List, [], ◌∷◌, length, get_or, drop, refl, ap, sym, ◌∙◌, subst, arith}
use Rattle.std.specs.List.{AllByRecursion}
use Rattle.std.proofs.lemmas.List.{at_drop_more}
use Rattle.gv_types.specs.Memory.{bytes_of, all_ones}
use Rattle.gv_types.specs.declared.event.Event.TheVariants.{Write}
use Rattle.gv_types.specs.declared.event.Place.{Place}
use Rattle.gv_types.specs.declared.event.Place.TheVariants.{Registers}
use Rattle.gv_types.specs.declared.event.Width.{Width}
use Rattle.gv_types.specs.declared.event.Width.TheVariants.{Four, Eight}
use Rattle.gv_types.specs.declared.ids.GuestId.{GuestId}
use Rattle.gv_gpu.specs.Change.{RanPart}
use Rattle.gv_gpu.specs.Device.{Device}
use Rattle.gv_private.specs.Inputs.{Input, event}
use Rattle.gv_types.specs.Engines.{register_base}
use Rattle.gv_machine.specs.Course.{onto, play}
use Rattle.gv_machine.specs.Machine.{Machine, input_course, writes_of, port_writes}
use Rattle.gv_machine.proofs.Joined.{length-input}
use Rattle.gv_text.specs.Grammar.{value_limit}
use Rattle.gv_run.specs.Tied.{Plays, entries_in}
use Rattle.gv_run.proofs.Left.{Goes, goes-all, went-on, stops-within, goes-part, goes-over}

-- Of these inputs the first were played from a machine, a text and a device on; `rest` is left.
pub record Going (first : Machine) (inputs : List Input) (before : List ℕ) (start : Device) (m : Machine) (rest : List Input) (now : List ℕ) (d : Device) : Type 0 where
  pub goes : Goes (play input_course first inputs) before start (play input_course m rest) now d
  pub count : length m.devices ≡ length first.devices

-- nothing was played yet
pub going-all : (m : Machine) (inputs rest : List Input) (before : List ℕ) (start : Device) → rest ≡ inputs → Going m inputs before start m rest before start
going-all m inputs rest before start is = record {
  goes = subst (λ (xs : List Input). Goes (play input_course m inputs) before start (play input_course m xs) before start) (sym is) (goes-all (play input_course m inputs) before start);
  count = refl;
}

module _ (first : Machine) (inputs : List Input) (before : List ℕ) (start : Device) (m : Machine) (one : Input) (rest all : List Input) (now : List ℕ) (d : Device) (going : Going first inputs before start m all now d) (is : all ≡ one ∷ rest) where
  next-goes : Goes (play input_course first inputs) before start (onto (input_course m one) (play input_course (input_course m one).left rest)) now d
  next-goes = subst (λ (xs : List Input). Goes (play input_course first inputs) before start (play input_course m xs) now d) is going.goes

  -- one more was played
  pub going-on : (after : Machine) (later : List ℕ) (e : Device) → Plays (input_course m one) d now e after later → Going first inputs before start after rest later e
  going-on after later e plays = record {
    goes = subst (λ (k : Machine). Goes (play input_course first inputs) before start (play input_course k rest) later e) (sym plays.machine)
        (went-on (play input_course first inputs) before start (input_course m one) (play input_course (input_course m one).left rest) now d next-goes later e plays.report plays.ran);
    count = ap (λ (k : Machine). length k.devices) plays.machine ∙ length-input m one ∙ going.count;
  }

  -- one more began
  pub going-part : (e : Device) → RanPart d e (entries_in (input_course m one).came) → RanPart start e (entries_in (play input_course first inputs).came)
  going-part e part = stops-within (play input_course first inputs) before start (input_course m one) (play input_course (input_course m one).left rest) now d next-goes e part

pub going-over : (first : Machine) (inputs : List Input) (before : List ℕ) (start : Device) (m : Machine) (rest : List Input) (now : List ℕ) (d : Device) → Going first inputs before start m rest now d → rest ≡ [] → Plays (play input_course first inputs) start before d m now
going-over first inputs before start m rest now d going none =
    goes-over (play input_course first inputs) before start (play input_course m rest) m now d going.goes (ap (play input_course m) none)

-- ---- writes

-- the first of the writes that are left
pub write-first : (guest : GuestId) (place : Place) (width : Width) (at : ℕ) (values : List ℕ) (i : ℕ) → i < length values
    → writes_of guest place width (at + bytes_of width * i) (drop i values)
    ≡ event (Write guest place width (at + bytes_of width * i) (get_or values i 0)) ∷ writes_of guest place width (at + bytes_of width * (i + 1)) (drop (i + 1) values)
write-first guest place width at values i there =
    let next : at + bytes_of width * i + bytes_of width ≡ at + bytes_of width * (i + 1) = omega arith in
    at_drop_more (writes_of guest place width (at + bytes_of width * i)) values i 0 there
    ∙ ap (λ more. event (Write guest place width (at + bytes_of width * i) (get_or values i 0)) ∷ writes_of guest place width more (drop (i + 1) values)) next

pub all-at : (P : ℕ → Type 0) (values : List ℕ) (i : ℕ) → AllByRecursion P values → i < length values → P (get_or values i 0)
all-at P [] i all there = absurd (omega arith)
all-at P (value ∷ values) zero all there = all.0
all-at P (value ∷ values) (suc i) all there = all-at P values i all.1 (omega arith)

pub value-fits : (width : Width) (value : ℕ) → value < value_limit width → value ≤ all_ones width
value-fits Four value small = omega arith
value-fits Eight value small = omega arith

pub still-aligned : (width : Width) (at i : ℕ) → at % bytes_of width ≡ 0 → (at + bytes_of width * i) % bytes_of width ≡ 0
still-aligned Four at i is = omega arith
still-aligned Eight at i is = omega arith

pub some-bytes : (width : Width) → 0 < bytes_of width
some-bytes Four = omega arith
some-bytes Eight = omega arith

pub inside-place : (width : Width) (at i n end : ℕ) → i < n → at + bytes_of width * n ≤ end → at + bytes_of width * i < end
inside-place Four at i n end h within = omega arith
inside-place Eight at i n end h within = omega arith

-- ---- writes to a port

pub port-first : (guest : GuestId) (engine : ℕ) (values : List ℕ) (i : ℕ) → i < length values
    → port_writes guest engine (drop i values)
    ≡ event (Write guest Registers Four (register_base engine + 0x230) (get_or values i 0)) ∷ port_writes guest engine (drop (i + 1) values)
port-first guest engine values i there = at_drop_more (port_writes guest engine) values i 0 there

abbrev PortFits : ℕ → Type 0
PortFits base = ((base + 0x230) % 4 ≡ 0) × (base + 0x230 < 0x1000000)

port-of : (a b c : Bool) → PortFits (cond a 0x2000 (cond b 0x22000 (cond c 0x12000 0x1A000)))
port-of true b c = (refl, lit< tt)
port-of false true c = (refl, lit< tt)
port-of false false true = (refl, lit< tt)
port-of false false false = (refl, lit< tt)

-- a port is a register of four bytes
pub port-fits : (engine : ℕ) → ((register_base engine + 0x230) % 4 ≡ 0) × (register_base engine + 0x230 < 0x1000000)
port-fits engine = port-of (eqb engine 0) (eqb engine 1) (eqb engine 2)

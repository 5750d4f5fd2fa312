-- In failsafe nothing but memory changes.
use Rattle.std.proofs.Common.{◌≡◌, ℕ, suc, zero, ◌-◌, ◌||◌, Bool, true, false, List, [], ◌∷◌, cond, length, refl, sym, ap, ◌∙◌}
use Rattle.std.specs.List.{list_any, filter, range_with_len}
use Rattle.gv_types.specs.Memory.{Memory, memory_write}
use Rattle.gv_types.specs.declared.event.Event.TheVariants.{Read, Write, Turn, Switch, Move, Reset}
use Rattle.gv_types.specs.declared.event.Place.TheVariants as places
use Rattle.gv_types.specs.declared.reply.Outcome.TheVariants as outcomes
use Rattle.gv_types.specs.declared.reply.Reason.TheVariants.{Entry}
use Rattle.gv_entry.specs.Tables.{any_entry, is_bad_entry, tables_named, live_below, has_bad_entry}
use Rattle.gv_private.specs.Access.{range_written, aperture_written}
use Rattle.gv_private.specs.Device.{PrivateDevice, Written, failed, fails, quietly}
use Rattle.gv_private.specs.Inputs.{answer}
use Rattle.gv_private.specs.Laws.{OnlyMemoryChanges, FailsafeStays}
use Rattle.gv_private.specs.Turn.{Turned, turned_as, turned_by}

-- ---- without roots there is no live table

filter-never : (xs : List ℕ) → filter (λ (x : ℕ). false) xs ≡ []
filter-never [] = refl
filter-never (x ∷ xs) = filter-never xs

live-none : (m : Memory) (depth : ℕ) → live_below m [] depth ≡ []
live-none m zero = refl
live-none m (suc depth) = ap (tables_named m (4 - depth)) (live-none m depth) ∙ filter-never (range_with_len 0 (length m))

pub bad-none : (m : Memory) → has_bad_entry m [] ≡ false
bad-none m = λ i.
    list_any (any_entry m 4 is_bad_entry) (live-none m 0 i)
    || (list_any (any_entry m 3 is_bad_entry) (live-none m 1 i)
    || (list_any (any_entry m 2 is_bad_entry) (live-none m 2 i)
    || (list_any (any_entry m 1 is_bad_entry) (live-none m 3 i) || false)))

-- ---- one event

quiet-written : (p : PrivateDevice) (b : Bool) (x : Written) → b ≡ true → (cond b (quietly p) x).device ≡ record p { memory = (cond b (quietly p) x).device.memory }
quiet-written p true x is = refl
quiet-written p false x is = cc

quiet-turned : (p : PrivateDevice) (b : Bool) (x : Turned) → b ≡ true → (cond b (turned_as outcomes.Idle (quietly p)) x).left.device ≡ record p { memory = (cond b (turned_as outcomes.Idle (quietly p)) x).left.device.memory }
quiet-turned p true x is = refl
quiet-turned p false x is = cc

good-written : (p : PrivateDevice) (b : Bool) (m : Memory) → b ≡ false → (cond b (fails (record p { memory = m }) Entry) (quietly (record p { memory = m }))).device ≡ record p { memory = (cond b (fails (record p { memory = m }) Entry) (quietly (record p { memory = m }))).device.memory }
good-written p true m is = cc
good-written p false m is = refl

pub only_memory_changes : OnlyMemoryChanges
only_memory_changes p (Read guest place width at) is other = refl
only_memory_changes p (Write guest places.Memory width at value) is other =
    let m = memory_write p.memory width at value in
    good-written p (has_bad_entry m p.roots) m (ap (has_bad_entry m) (ap (λ (q : PrivateDevice). q.roots) is) ∙ bad-none m)
only_memory_changes p (Write guest places.Registers width at value) is other = quiet-written p p.failsafe (range_written p width at value) (ap (λ (q : PrivateDevice). q.failsafe) is)
only_memory_changes p (Write guest places.Aperture width at value) is other = quiet-written p p.failsafe (quietly (aperture_written p width at value)) (ap (λ (q : PrivateDevice). q.failsafe) is)
only_memory_changes p (Turn engine) is other = quiet-turned p p.failsafe (turned_by p engine.0 (p.engines engine.0).element) (ap (λ (q : PrivateDevice). q.failsafe) is)
only_memory_changes p (Switch engine) is other = refl
only_memory_changes p (Move guest frame) is other = refl
only_memory_changes p (Reset guest) is other = cc

pub failsafe_stays : FailsafeStays
failsafe_stays p event is other =
    let same = only_memory_changes p event is other in
    same ∙ (ap (λ (q : PrivateDevice). record q { memory = (answer p event).left.memory }) is ∙ sym (ap failed same))

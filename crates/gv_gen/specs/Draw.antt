-- What the rounds of a script draw.
use Rattle.std.specs.Prelude.{ℕ, ◌+◌, ◌*◌, ◌/◌, ◌%◌, ◌^◌, ◌==◌, if◌then◌else◌}
use Rattle.gv_gen.specs.declared.draw.Kind.{Kind}
use Rattle.gv_gen.specs.declared.draw.Kind.TheVariants.{Store, Load, Submit, Turns, Switch, Map, Pointer, Move}
use Rattle.gv_gen.specs.declared.draw.Draw.{Draw}

abbrev pub next_state : ℕ → ℕ
next_state x = (x * 6364136223846793005 + 1442695040888963407) % 2 ^ 64

-- the number that is drawn
abbrev pub drawn : ℕ → ℕ
drawn x = next_state x / 2 ^ 33

abbrev pub kind_drawn : ℕ → Kind
kind_drawn k =
    if k == 0 then Store
    else (if k == 1 then Load
    else (if k == 2 then Submit
    else (if k == 3 then Turns
    else (if k == 4 then Switch
    else (if k == 5 then Map
    else (if k == 6 then Pointer
    else Move))))))

-- A round draws what is done, the guest and a value, in this order.
abbrev pub draw_at : ℕ → Draw
draw_at x =
    let y = next_state x in
    let z = next_state y in
    record { kind = kind_drawn (drawn x % 8); guest = drawn y % 2; value = drawn z }

abbrev pub state_after : ℕ → ℕ
state_after x = next_state (next_state (next_state x))

-- One write of a line of writes, or of a submission.
use Rattle.std.proofs.Common.{◌≡◌, ℕ, ◌+◌, ◌*◌, ◌<◌, List, ◌∷◌, length, get_or, drop, ap, ◌∙◌, arith}
use Rattle.std.proofs.lemmas.List.{at_drop_more}
use Rattle.gv_types.specs.Memory.{bytes_of}
use Rattle.gv_types.specs.declared.event.Event.TheVariants.{Write}
use Rattle.gv_types.specs.declared.event.Place.{Place}
use Rattle.gv_types.specs.declared.event.Place.TheVariants.{Registers}
use Rattle.gv_types.specs.declared.event.Width.{Width}
use Rattle.gv_types.specs.declared.event.Width.TheVariants.{Four}
use Rattle.gv_types.specs.declared.ids.GuestId.{GuestId}
use Rattle.gv_types.specs.Engines.{register_base}
use Rattle.gv_private.specs.Inputs.{Input, event}
use Rattle.gv_machine.specs.Course.{onto, play}
use Rattle.gv_machine.specs.Machine.{Machine, input_course, writes_of, port_writes}

module _ (guest : GuestId) (place : Place) (width : Width) (at : ℕ) (values : List ℕ) (i : ℕ) (h : i < length values) where
  abbrev left : List Input
  left = writes_of guest place width (at + bytes_of width * i) (drop i values)

  abbrev rest : List Input
  rest = writes_of guest place width (at + bytes_of width * (i + 1)) (drop (i + 1) values)

  abbrev write : Input
  write = event (Write guest place width (at + bytes_of width * i) (get_or values i 0))

  next : at + bytes_of width * i + bytes_of width ≡ at + bytes_of width * (i + 1)
  next = omega arith

  left_step : left ≡ write ∷ rest
  left_step =
      at_drop_more (writes_of guest place width (at + bytes_of width * i)) values i 0 h
      ∙ ap (λ a. write ∷ writes_of guest place width a (drop (i + 1) values)) next

  pub write-first : (m : Machine) → play input_course m left ≡ onto (input_course m write) (play input_course (input_course m write).left rest)
  write-first m = ap (play input_course m) left_step

module _ (guest : GuestId) (engine : ℕ) (values : List ℕ) (i : ℕ) (h : i < length values) where
  abbrev port_left : List Input
  port_left = port_writes guest engine (drop i values)

  abbrev port_rest : List Input
  port_rest = port_writes guest engine (drop (i + 1) values)

  abbrev port_write : Input
  port_write = event (Write guest Registers Four (register_base engine + 0x230) (get_or values i 0))

  port_step : port_left ≡ port_write ∷ port_rest
  port_step = at_drop_more (port_writes guest engine) values i 0 h

  pub port-first : (m : Machine) → play input_course m port_left ≡ onto (input_course m port_write) (play input_course (input_course m port_write).left port_rest)
  port-first m = ap (play input_course m) port_step

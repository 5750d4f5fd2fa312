-- The lines of a script. A line has at most 256 bytes; its words are separated by one space, with
-- none before the first and none after the last. A line that is empty or begins with # says nothing.
-- A form of line that isn't here is refused.
use Rattle.std.specs.Prelude.{ℕ, ◌+◌, ◌-◌, ◌*◌, ◌%◌, ◌^◌, ◌<◌, ◌≤◌, ◌≡◌, List, [], ◌∷◌, Option, Some, None, Bool, true, nat_lt, nat_le, ◌==◌, ◌&&◌, if◌then◌else◌, length, codes}
use Rattle.std.specs.List.{slice_split, AllByRecursion}
use Rattle.std.specs.Str.{bytes_eq}
use Rattle.gv_types.specs.Places.{address_limit}
use Rattle.gv_types.specs.Memory.{bytes_of}
use Rattle.gv_types.specs.declared.event.Width.{Width}
use Rattle.gv_types.specs.declared.event.Width.TheVariants.{Four, Eight}
use Rattle.gv_types.specs.declared.event.Place.{Place}
use Rattle.gv_types.specs.declared.event.Place.TheVariants as places
use Rattle.gv_text.specs.Number.{◌>>=◌, provided, number_below}
use Rattle.gv_text.specs.declared.script_line.BadLine.{BadLine}
use Rattle.gv_text.specs.declared.script_line.Line.{Line}
use Rattle.gv_text.specs.declared.script_line.Line.TheVariants.{Blank, Guest, Read, Write, Elsp, Turn, Switch, Move, Reset, End}

-- the place and the width of each access that the first word of a line names
abbrev pub read_access : List ℕ → Option (Place × Width)
read_access word =
    if bytes_eq word (codes "r4") then Some (places.Memory, Four)
    else (if bytes_eq word (codes "r8") then Some (places.Memory, Eight)
    else (if bytes_eq word (codes "i4") then Some (places.Registers, Four)
    else (if bytes_eq word (codes "i8") then Some (places.Registers, Eight)
    else (if bytes_eq word (codes "a4") then Some (places.Aperture, Four)
    else (if bytes_eq word (codes "a8") then Some (places.Aperture, Eight)
    else None)))))

abbrev pub write_access : List ℕ → Option (Place × Width)
write_access word =
    if bytes_eq word (codes "w4") then Some (places.Memory, Four)
    else (if bytes_eq word (codes "w8") then Some (places.Memory, Eight)
    else (if bytes_eq word (codes "o4") then Some (places.Registers, Four)
    else (if bytes_eq word (codes "o8") then Some (places.Registers, Eight)
    else (if bytes_eq word (codes "b4") then Some (places.Aperture, Four)
    else (if bytes_eq word (codes "b8") then Some (places.Aperture, Eight)
    else None)))))

abbrev pub value_limit : Width → ℕ
value_limit Four = 2 ^ 32
value_limit Eight = 2 ^ 64

-- an address is a multiple of the access's bytes
abbrev pub address_of : Place → Width → List ℕ → Option ℕ
address_of place width word = number_below (address_limit place) word >>= λ at. provided (at % bytes_of width == 0) at

abbrev pub values_of : Width → List (List ℕ) → Option (List ℕ)
values_of width [] = Some []
values_of width (word ∷ words) = do
  value ← number_below (value_limit width) word
  values ← values_of width words
  Some (value ∷ values)

-- guest F L H
abbrev pub guest_line : List ℕ → List ℕ → List ℕ → Option Line
guest_line f l h = do
  frames ← number_below 0x4001 f
  low ← number_below (2 ^ 32) l
  high ← number_below (2 ^ 32) h
  provided (nat_lt 0 frames) (Guest (record { frames = frames; low = low; high = high }))

-- r4 G A, i4 G O, a4 G A, and the same with 8
abbrev pub read_line : Place → Width → List ℕ → List ℕ → Option Line
read_line place width g a = do
  guest ← number_below 8 g
  at ← address_of place width a
  Some (Read guest place width at)

-- A line has at most 16 values, and the last one's address is in the place.
abbrev pub values_fit : Place → Width → ℕ → ℕ → Bool
values_fit place width at count = nat_le count 16 && nat_lt (at + bytes_of width * (count - 1)) (address_limit place)

-- w4 G A V .., o4 G O V .., b4 G A V .., and the same with 8
abbrev pub write_line : Place → Width → List ℕ → List ℕ → List (List ℕ) → Option Line
write_line place width g a vs = do
  guest ← number_below 8 g
  at ← address_of place width a
  values ← values_of width vs
  provided (values_fit place width at (length values)) (Write guest place width at values)

-- elsp G E X Y
abbrev pub elsp_line : List ℕ → List ℕ → List ℕ → List ℕ → Option Line
elsp_line g e x y = do
  guest ← number_below 8 g
  engine ← number_below 4 e
  second ← number_below (2 ^ 64) x
  first ← number_below (2 ^ 64) y
  Some (Elsp guest engine second first)

-- turn E N
abbrev pub turn_line : List ℕ → List ℕ → Option Line
turn_line e n = do
  engine ← number_below 4 e
  count ← number_below 0x10001 n
  provided (nat_lt 0 count) (Turn engine count)

-- switch E
abbrev pub switch_line : List ℕ → Option Line
switch_line e = number_below 4 e >>= λ engine. Some (Switch engine)

-- move G F
abbrev pub move_line : List ℕ → List ℕ → Option Line
move_line g f = do
  guest ← number_below 8 g
  frame ← number_below (2 ^ 32) f
  Some (Move guest frame)

-- reset G
abbrev pub reset_line : List ℕ → Option Line
reset_line g = number_below 8 g >>= λ guest. Some (Reset guest)

abbrev pub one_word : List ℕ → Option Line
one_word w = if bytes_eq w (codes "end") then Some End else None

abbrev pub two_words : List ℕ → List ℕ → Option Line
two_words w x =
    if bytes_eq w (codes "switch") then switch_line x
    else (if bytes_eq w (codes "reset") then reset_line x else None)

abbrev pub access_line : List ℕ → List ℕ → List ℕ → Option Line
access_line w g a = read_access w >>= λ (place, width). read_line place width g a

abbrev pub three_words : List ℕ → List ℕ → List ℕ → Option Line
three_words w x y =
    if bytes_eq w (codes "turn") then turn_line x y
    else (if bytes_eq w (codes "move") then move_line x y
    else access_line w x y)

abbrev pub more_words : List ℕ → List ℕ → List ℕ → List (List ℕ) → Option Line
more_words w g a vs = write_access w >>= λ (place, width). write_line place width g a vs

abbrev pub four_words : List ℕ → List ℕ → List ℕ → List ℕ → Option Line
four_words w x y z = if bytes_eq w (codes "guest") then guest_line x y z else more_words w x y (z ∷ [])

abbrev pub five_words : List ℕ → List ℕ → List ℕ → List ℕ → List ℕ → Option Line
five_words w x y z v = if bytes_eq w (codes "elsp") then elsp_line x y z v else more_words w x y (z ∷ v ∷ [])

abbrev pub line_of_words : List (List ℕ) → Option Line
line_of_words (w ∷ []) = one_word w
line_of_words (w ∷ x ∷ []) = two_words w x
line_of_words (w ∷ x ∷ y ∷ []) = three_words w x y
line_of_words (w ∷ x ∷ y ∷ z ∷ []) = four_words w x y z
line_of_words (w ∷ x ∷ y ∷ z ∷ v ∷ []) = five_words w x y z v
line_of_words (w ∷ x ∷ y ∷ z ∷ v ∷ u ∷ vs) = more_words w x y (z ∷ v ∷ u ∷ vs)
line_of_words words = None

abbrev pub is_space : ℕ → Bool
is_space b = b == 32

abbrev pub line_words : List ℕ → List (List ℕ)
line_words bytes = slice_split is_space bytes

abbrev pub says_nothing : List ℕ → Bool
says_nothing [] = true
says_nothing (b ∷ bs) = b == 35

-- The line that the bytes are, without their line feed.
abbrev pub line_of : List ℕ → Option Line
line_of bytes = if nat_lt 256 (length bytes) then None else (if says_nothing bytes then Some Blank else line_of_words (line_words bytes))

abbrev pub bad_line : BadLine
bad_line = record {}

-- what holds of each line
abbrev pub IsForm : Line → Type 0
IsForm (Guest g) = (0 < g.frames) × (g.frames ≤ 0x4000)
IsForm (Read guest place width at) = (guest < 8) × (at % bytes_of width ≡ 0) × (at < address_limit place)
IsForm (Write guest place width at values) = (guest < 8) × (at % bytes_of width ≡ 0) × (0 < length values) × (length values ≤ 16)
    × (at + bytes_of width * length values ≤ address_limit place) × AllByRecursion (λ value. value < value_limit width) values
IsForm (Elsp guest engine second first) = (guest < 8) × (engine < 4) × (second < 2 ^ 64) × (first < 2 ^ 64)
IsForm (Turn engine count) = (engine < 4) × (0 < count) × (count ≤ 0x10000)
IsForm (Switch engine) = engine < 4
IsForm (Move guest frame) = (guest < 8) × (frame < 2 ^ 32)
IsForm (Reset guest) = guest < 8
IsForm line = Unit {0}

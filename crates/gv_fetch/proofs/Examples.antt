-- The fetch, worked out by hand. The guest owns the global pages 0 to 15; the ring is the page at 0x2000.
use Rattle.std.proofs.Common.{◌≡◌, ℕ, ◌-◌, ◌^◌, true, false, List, [], ◌∷◌, None, Some, Ok, Err, refl, eqb, cond, ltb}
use Rattle.gv_types.specs.declared.reply.Reason.TheVariants.{Command, Range, Size}
use Rattle.gv_ctx.specs.declared.image.Image.{Image}
use Rattle.gv_cmd.specs.Table.{kind_of}
use Rattle.gv_types.specs.declared.ranges.Ranges.{Ranges}
use Rattle.gv_entry.specs.Grants.{nothing_guarded}
use Rattle.gv_fetch.specs.Left.{Left, Fetched, At, begun, moved, front, is_done}
use Rattle.gv_fetch.specs.Space.{guest_space}
use Rattle.gv_fetch.specs.Items.{none, command, batch}
use Rattle.gv_fetch.specs.Fetch.{GlobalSpace, dwords, owns_dwords, batch_items, ring_items, whole_ring, items_of, owns_pages, fetched}

-- dwords by their addresses; all others are 0
abbrev lookup : List (ℕ × ℕ) → ℕ → ℕ
lookup [] at = 0
lookup ((a, word) ∷ more) at = cond (eqb a at) word (lookup more at)

abbrev space : List (ℕ × ℕ) → GlobalSpace
space words = record { owned = λ page. ltb page 16; word = λ at. lookup words at }

abbrev image : ℕ → ℕ → Image
image head tail = record { head = head; tail = tail; start = 0x2000; pages = 1; root = 8 }

-- a store across the ring's end
wrap : fetched (space ((0x2ff8, 0x10400002) ∷ (0x2ffc, 0x2800) ∷ (0x2000, 0) ∷ (0x2004, 0x33) ∷ [])) 1 (image 0xff8 8)
    ≡ Ok (command (0x10400002 ∷ 0x2800 ∷ 0 ∷ 0x33 ∷ []) none)
unfolding owns_pages dwords owns_dwords batch_items ring_items kind_of
wrap = refl

unlisted : fetched (space ((0x2000, 0x7A000005) ∷ [])) 1 (image 0 8) ≡ Err Command
unfolding owns_pages dwords owns_dwords batch_items ring_items kind_of
unlisted = refl

empty_ring : fetched (space []) 1 (image 8 8) ≡ Ok none
unfolding owns_pages dwords owns_dwords batch_items ring_items kind_of
empty_ring = refl

-- a batch of the second level in one of the first
abbrev two_levels : List (ℕ × ℕ)
two_levels = (0x2000, 0x18800001) ∷ (0x2004, 0x4000)
    ∷ (0x4000, 0x18c00001) ∷ (0x4004, 0x4800) ∷ (0x400c, 0x5000000)
    ∷ (0x4800, 0x10400002) ∷ (0x4804, 0x2800) ∷ (0x480c, 0x44) ∷ (0x4810, 0x5000000) ∷ []

second_level : fetched (space two_levels) 1 (image 0 0x10)
    ≡ Ok (batch (0x18800001 ∷ 0 ∷ 0 ∷ [])
    (batch (0x18c00001 ∷ 0 ∷ 0 ∷ [])
    (command (0x10400002 ∷ 0x2800 ∷ 0 ∷ 0x44 ∷ []) (command (0x5000000 ∷ []) none))
    (command (0x5000000 ∷ []) none))
    (command (0 ∷ []) none))
unfolding owns_pages dwords owns_dwords batch_items ring_items kind_of
second_level = refl

-- a second level starts none
third_level : fetched (space ((0x4800, 0x18c00001) ∷ two_levels)) 1 (image 0 0x10) ≡ Err Command
unfolding owns_pages dwords owns_dwords batch_items ring_items kind_of
third_level = refl

-- An operand past the last owned page; and a batch of zeros that runs to the end of what is owned.
operand : fetched (space ((0x2000, 0x10400002) ∷ (0x2004, 0x10000) ∷ [])) 1 (image 0 0x10) ≡ Err Range
unfolding owns_pages dwords owns_dwords batch_items ring_items kind_of
operand = refl

endless : fetched (space ((0x2000, 0x18800001) ∷ (0x2004, 0xff00) ∷ [])) 1 (image 0 0x10) ≡ Err Range
unfolding owns_pages dwords owns_dwords batch_items ring_items kind_of
endless = refl

-- with a budget of 3 dwords, a batch of 3 and, twice, one of 2
just_enough : items_of (whole_ring (space ((0xfffc, 0x5000000) ∷ [])) 1 (0x18800001 ∷ 0xfff4 ∷ 0 ∷ []) 3)
    ≡ Ok (batch (0x18800001 ∷ 0 ∷ 0 ∷ []) (command (0 ∷ []) (command (0 ∷ []) (command (0x5000000 ∷ []) none))) none)
unfolding owns_pages dwords owns_dwords batch_items ring_items kind_of
just_enough = refl

too_long : items_of (whole_ring (space ((0xfffc, 0x5000000) ∷ [])) 1 (0x18800001 ∷ 0xfff8 ∷ 0 ∷ 0x18800001 ∷ 0xfff8 ∷ 0 ∷ []) 3) ≡ Err Size
unfolding owns_pages dwords owns_dwords batch_items ring_items kind_of
too_long = refl

-- the last page of a ring of two isn't owned
not_owned : fetched (space []) 1 (record { head = 0; tail = 8; start = 0xf000; pages = 2; root = 8 }) ≡ Err Range
unfolding owns_pages dwords owns_dwords batch_items ring_items kind_of
not_owned = refl

-- a batch that is changed later is fetched as it is
one_batch : fetched (space ((0x2000, 0x18800001) ∷ (0x2004, 0x4000) ∷ (0x4000, 0x10400002) ∷ (0x4004, 0x2800) ∷ (0x400c, 0x11) ∷ (0x4010, 0x5000000) ∷ [])) 1 (image 0 0x10)
    ≡ Ok (batch (0x18800001 ∷ 0 ∷ 0 ∷ []) (command (0x10400002 ∷ 0x2800 ∷ 0 ∷ 0x11 ∷ []) (command (0x5000000 ∷ []) none)) (command (0 ∷ []) none))
unfolding owns_pages dwords owns_dwords batch_items ring_items kind_of
one_batch = refl

-- A store of two dwords whose second would be past the last owned page; and one that just fits.
crosses : fetched (space ((0x2000, 0x10600003) ∷ (0x2004, 0xfffc) ∷ [])) 1 (image 0 0x18) ≡ Err Range
unfolding owns_pages dwords owns_dwords batch_items ring_items kind_of
crosses = refl

fits : fetched (space ((0x2000, 0x10600003) ∷ (0x2004, 0xfff8) ∷ [])) 1 (image 0 0x18) ≡ Ok (command (0x10600003 ∷ 0xfff8 ∷ 0 ∷ 0 ∷ 0 ∷ []) (command (0 ∷ []) none))
unfolding owns_pages dwords owns_dwords batch_items ring_items kind_of
fits = refl

-- PIPE_CONTROL is for engine 0 alone, FLUSH_DW for the others.
pipe_control : fetched (space ((0x2000, 0x7A000004) ∷ [])) 0 (image 0 0x18) ≡ Ok (command (0x7A000004 ∷ 0 ∷ 0 ∷ 0 ∷ 0 ∷ 0 ∷ []) none)
unfolding owns_pages dwords owns_dwords batch_items ring_items kind_of
pipe_control = refl

pipe_control_elsewhere : fetched (space ((0x2000, 0x7A000004) ∷ [])) 2 (image 0 0x18) ≡ Err Command
unfolding owns_pages dwords owns_dwords batch_items ring_items kind_of
pipe_control_elsewhere = refl

flush : fetched (space ((0x2000, 0x13000002) ∷ [])) 3 (image 0 0x10) ≡ Ok (command (0x13000002 ∷ 0 ∷ 0 ∷ 0 ∷ []) none)
unfolding owns_pages dwords owns_dwords batch_items ring_items kind_of
flush = refl

flush_elsewhere : fetched (space ((0x2000, 0x13000002) ∷ [])) 0 (image 0 0x10) ≡ Err Command
unfolding owns_pages dwords owns_dwords batch_items ring_items kind_of
flush_elsewhere = refl

-- a start of a live batch is a command like others
live : fetched (space ((0x2000, 0x18800101) ∷ (0x2004, 0x123456) ∷ [])) 1 (image 0 0x10)
    ≡ Ok (command (0x18800101 ∷ 0x123456 ∷ 0 ∷ []) (command (0 ∷ []) none))
unfolding owns_pages dwords owns_dwords batch_items ring_items kind_of
live = refl

-- in a batch an unlisted header comes before its other dwords, and these before what the row says
header_first : fetched (space ((0x2000, 0x18800001) ∷ (0x2004, 0xfffc) ∷ (0xfffc, 0x10400003) ∷ [])) 1 (image 0 0x10) ≡ Err Command
unfolding owns_pages dwords owns_dwords batch_items ring_items kind_of
header_first = refl

dwords_next : fetched (space ((0x2000, 0x18800001) ∷ (0x2004, 0xfffc) ∷ (0xfffc, 0x7A000004) ∷ [])) 1 (image 0 0x10) ≡ Err Range
unfolding owns_pages dwords owns_dwords batch_items ring_items kind_of
dwords_next = refl

-- ---- what is left

-- nothing is read of a live batch here
nowhere : ℕ → List ℕ
nowhere at = []

abbrev one_start : Left
one_start = begun (batch (0x18800001 ∷ 0 ∷ 0 ∷ []) (command (0x5000000 ∷ []) none) (command (0 ∷ []) none))

-- a start of a fetched batch is entered, its end leaves it, and then what is behind the start is left
enters : moved one_start (front nowhere one_start) 3 ≡ record { ring = command (0 ∷ []) none; first = Some (Fetched (command (0x5000000 ∷ []) none)); second = None }
unfolding kind_of
enters = refl

leaves : moved (record { ring = command (0 ∷ []) none; first = Some (Fetched (command (0x5000000 ∷ []) none)); second = None }) (0x5000000 ∷ []) 1 ≡ begun (command (0 ∷ []) none)
unfolding kind_of
leaves = refl

done : is_done (begun none) ≡ true
done = refl

not_done : is_done (record { ring = none; first = Some (At 0x4000); second = None }) ≡ false
not_done = refl

-- a jump of a live batch goes to the new address, modulo 2^48
jumps : moved (record { ring = none; first = Some (At (2 ^ 48 - 12)); second = None }) (0x18800101 ∷ 0x8000 ∷ 0 ∷ []) 3 ≡ record { ring = none; first = Some (At 0x8000); second = None }
unfolding kind_of
jumps = refl

wraps : moved (record { ring = none; first = Some (At (2 ^ 48 - 4)); second = None }) (0 ∷ []) 1 ≡ record { ring = none; first = Some (At 0); second = None }
unfolding kind_of
wraps = refl

-- ---- a guest's space: page 2 of its table has an entry, page 3 has none, page 0x20 isn't its own

abbrev ranges : Ranges
ranges = record { low = record { first = 0; pages = 16 }; high = record { first = 0x10000; pages = 0 } }

abbrev guests : GlobalSpace
guests = guest_space ranges ((7 ∷ 0x1111111122222222 ∷ []) ∷ []) nothing_guarded (0 ∷ 0 ∷ 1 ∷ 0 ∷ [])

granted : guests.word 0x200c ≡ 0x11111111
granted = refl

absent_entry : guests.word 0x3008 ≡ 0
absent_entry = refl

owned_without_a_grant : guests.owned 3 ≡ true
owned_without_a_grant = refl

not_its_own : guests.owned 0x20 ≡ false
not_its_own = refl

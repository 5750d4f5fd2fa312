-- What a guest's context and ring read as through its global table.
use Rattle.std.proofs.Common.{◌≡◌, ℕ, ◌+◌, ◌*◌, ◌/◌, ◌%◌, ◌^◌, Bool, true, false, List, [], ◌∷◌, ◌++◌, cond, length, replicate, refl, ap, ◌∙◌, Option, None, Some, Ok}
use Rattle.std.specs.Prelude.{slice_index}
use Rattle.gv_types.specs.Memory.{Memory, half_of}
use Rattle.gv_types.specs.declared.ranges.Ranges.{Ranges}
use Rattle.gv_ctx.specs.Image.{image_read}
use Rattle.gv_ctx.specs.declared.image.Image.{Image}
use Rattle.gv_cmd.specs.Table.{kind_of}
use Rattle.gv_entry.specs.Global.{global_entry}
use Rattle.gv_entry.specs.Grants.{global_grant}
use Rattle.gv_entry.specs.Tables.{frame_words}
use Rattle.gv_fetch.specs.Fetch.{GlobalSpace, dwords, owns_pages, ring_items, fetched, items_of, whole_ring}
use Rattle.gv_fetch.specs.Items.{Items, none, command}
use Rattle.gv_fetch.specs.Space.{dword_in, guest_space}
use Rattle.gv_calm.proofs.Memories.{Holds, Words, behind, image_words, ring_words}

-- ---- a guest's part of the global table: guest 1's is behind guest 0's

abbrev pub low_of : Bool → ℕ
low_of g = cond g 16 0

abbrev pub guest_ranges : Bool → Ranges
guest_ranges g = record { low = record { first = low_of g; pages = 16 }; high = record { first = 0x10000; pages = 0 } }

abbrev pub guest_entries : List ℕ
guest_entries = 1 ∷ 0x1001 ∷ 0x2001 ∷ 0x3001 ∷ 0x4001 ∷ replicate 11 0

-- where its ring starts
abbrev pub start_of : Bool → ℕ
start_of g = cond g 0x12000 0x2000

-- what a page of it grants
abbrev pub grant_in : Bool → ℕ → (ℕ → Bool) → ℕ → Option ℕ
grant_in g frames guarded page = global_grant (guest_ranges g) frames guarded (global_entry (guest_ranges g) guest_entries) page

unguarded : (b : Bool) (frame : ℕ) → b ≡ false → cond b None (Some frame) ≡ Some frame
unguarded b frame free = λ i. cond (free i) None (Some frame)

pub grants-image : (g : Bool) (frames : ℕ) (guarded : ℕ → Bool) → frames ≡ 32 → guarded 1 ≡ false → grant_in g frames guarded (low_of g + 1) ≡ Some 1
grants-image true frames guarded is free = (λ i. grant_in true (is i) guarded 17) ∙ unguarded (guarded 1) 1 free
grants-image false frames guarded is free = (λ i. grant_in false (is i) guarded 1) ∙ unguarded (guarded 1) 1 free

pub grants-ring : (g : Bool) (frames : ℕ) (guarded : ℕ → Bool) → frames ≡ 32 → guarded 2 ≡ false → grant_in g frames guarded (low_of g + 2) ≡ Some 2
grants-ring true frames guarded is free = (λ i. grant_in true (is i) guarded 18) ∙ unguarded (guarded 2) 2 free
grants-ring false frames guarded is free = (λ i. grant_in false (is i) guarded 2) ∙ unguarded (guarded 2) 2 free

pub grants-status : (g : Bool) (frames : ℕ) (guarded : ℕ → Bool) → frames ≡ 32 → guarded 3 ≡ false → grant_in g frames guarded (low_of g + 3) ≡ Some 3
grants-status true frames guarded is free = (λ i. grant_in true (is i) guarded 19) ∙ unguarded (guarded 3) 3 free
grants-status false frames guarded is free = (λ i. grant_in false (is i) guarded 3) ∙ unguarded (guarded 3) 3 free

-- ---- dwords

-- the dword at an address of a frame with these words
from : (m : Memory) (grant : Option ℕ) (words : List ℕ) (frame index at : ℕ) → grant ≡ Some frame → frame_words m frame ≡ words → (frame * 4096 + at % 4096) / 8 / 512 ≡ frame → (frame * 4096 + at % 4096) / 8 % 512 ≡ index → dword_in m grant at ≡ half_of (slice_index words index) (frame * 4096 + at % 4096)
from m grant words frame index at granted are page place =
    (λ i. dword_in m (granted i) at)
    ∙ (λ i. half_of (slice_index (frame_words m (page i)) (place i)) (frame * 4096 + at % 4096))
    ∙ (λ i. half_of (slice_index (are i) index) (frame * 4096 + at % 4096))

-- only six dwords of an image are read
abbrev image_list : ℕ → ℕ → ℕ → ℕ → ℕ → ℕ → List ℕ
image_list head tail start control high low =
    0 ∷ 0 ∷ 0 ∷ 0 ∷ 0 ∷ head ∷ 0 ∷ tail ∷ 0 ∷ start ∷ 0 ∷ control ∷ replicate 37 0 ++ high ∷ 0 ∷ low ∷ []

six_dwords : (g : Bool) (word : ℕ → ℕ) → image_read (dwords word ((low_of g + 1) * 4096) 0x34) ≡ image_read (image_list (word ((low_of g + 1) * 4096 + 0x14)) (word ((low_of g + 1) * 4096 + 0x1C)) (word ((low_of g + 1) * 4096 + 0x24)) (word ((low_of g + 1) * 4096 + 0x2C)) (word ((low_of g + 1) * 4096 + 0xC4)) (word ((low_of g + 1) * 4096 + 0xCC)))
unfolding dwords
six_dwords true word = refl
six_dwords false word = refl

abbrev pub the_image : Bool → Bool → Image
the_image g head = record { head = behind head; tail = 0x10; start = start_of g; pages = 1; root = 8 }

read_whole : (g head : Bool) → image_read (image_list (behind head) 0x10 (start_of g) 1 0 0x8000) ≡ Ok (the_image g head)
read_whole true true = refl
read_whole true false = refl
read_whole false true = refl
read_whole false false = refl

-- ---- the ring's one command

-- the words of a store of a dword to the per-process page 1
pub record AreStore (x y : ℕ) : Type 0 where
  pub header : x % 2 ^ 32 ≡ 0x10000002
  pub page : x / 2 ^ 32 / 2 ^ 12 ≡ 1
  pub high : y % 2 ^ 32 ≡ 0

abbrev pub store_words : ℕ → ℕ → List ℕ
store_words at value = 0x10000002 ∷ at ∷ 0 ∷ value ∷ []

one_command : (space : GlobalSpace) (at value : ℕ) → whole_ring space 1 (store_words at value) 262144 ≡ Ok (record { items = command (store_words at value) none; budget = 262144 })
unfolding ring_items kind_of
one_command space at value = refl

-- what the load begins with: the store, or nothing where the head is behind it
abbrev pub ring_items_of : Bool → ℕ → ℕ → Items
ring_items_of true x y = none
ring_items_of false x y = command (store_words (x / 2 ^ 32) (y / 2 ^ 32)) none

-- ---- what is read of them

abbrev pub space_in : Bool → Memory → (ℕ → Bool) → GlobalSpace
space_in g m guarded = guest_space (guest_ranges g) m guarded guest_entries

-- a dword of the image, and one of the ring, by the frame's words
image_dword : (g : Bool) (m : Memory) (guarded : ℕ → Bool) (words : List ℕ) (index offset : ℕ) → length m ≡ 32 → guarded 1 ≡ false → frame_words m 1 ≡ words
    → ((low_of g + 1) * 4096 + offset) / 4096 ≡ low_of g + 1 → (4096 + ((low_of g + 1) * 4096 + offset) % 4096) / 8 / 512 ≡ 1 → (4096 + ((low_of g + 1) * 4096 + offset) % 4096) / 8 % 512 ≡ index
    → (space_in g m guarded).word ((low_of g + 1) * 4096 + offset) ≡ half_of (slice_index words index) (4096 + ((low_of g + 1) * 4096 + offset) % 4096)
image_dword g m guarded words index offset frames free are page frame place =
    from m (grant_in g (length m) guarded (((low_of g + 1) * 4096 + offset) / 4096)) words 1 index ((low_of g + 1) * 4096 + offset)
    (ap (grant_in g (length m) guarded) page ∙ grants-image g (length m) guarded frames free) are frame place

ring_dword : (g : Bool) (m : Memory) (guarded : ℕ → Bool) (words : List ℕ) (index offset : ℕ) → length m ≡ 32 → guarded 2 ≡ false → frame_words m 2 ≡ words
    → (start_of g + offset) / 4096 ≡ low_of g + 2 → (8192 + (start_of g + offset) % 4096) / 8 / 512 ≡ 2 → (8192 + (start_of g + offset) % 4096) / 8 % 512 ≡ index
    → (space_in g m guarded).word (start_of g + offset) ≡ half_of (slice_index words index) (8192 + (start_of g + offset) % 4096)
ring_dword g m guarded words index offset frames free are page frame place =
    from m (grant_in g (length m) guarded ((start_of g + offset) / 4096)) words 2 index (start_of g + offset)
    (ap (grant_in g (length m) guarded) page ∙ grants-ring g (length m) guarded frames free) are frame place

-- the fields in the image's words
head_half : (start : ℕ) (head tail : Bool) → half_of (slice_index (image_words start (behind head) (behind tail)) 2) 0x1014 ≡ behind head
unfolding image_words
head_half start true tail = refl
head_half start false tail = refl

tail_half : (start : ℕ) (head tail : Bool) → tail ≡ true → half_of (slice_index (image_words start (behind head) (behind tail)) 3) 0x101C ≡ 0x10
unfolding image_words
tail_half start head true is = refl
tail_half start head false is = cc

start_half : (g head tail : Bool) → half_of (slice_index (image_words (start_of g) (behind head) (behind tail)) 4) 0x1024 ≡ start_of g
unfolding image_words
start_half true head tail = refl
start_half false head tail = refl

control_half : (start : ℕ) (head tail : Bool) → half_of (slice_index (image_words start (behind head) (behind tail)) 5) 0x102C ≡ 1
unfolding image_words
control_half start head tail = refl

high_half : (start : ℕ) (head tail : Bool) → half_of (slice_index (image_words start (behind head) (behind tail)) 24) 0x10C4 ≡ 0
unfolding image_words
high_half start head tail = refl

low_half : (start : ℕ) (head tail : Bool) → half_of (slice_index (image_words start (behind head) (behind tail)) 25) 0x10CC ≡ 0x8000
unfolding image_words
low_half start head tail = refl

first_word : (x y : ℕ) → slice_index (ring_words x y) 0 ≡ x
unfolding ring_words
first_word x y = refl

second_word : (x y : ℕ) → slice_index (ring_words x y) 1 ≡ y
unfolding ring_words
second_word x y = refl

pub image-reads : (g : Bool) (m : Memory) (guarded : ℕ → Bool) (s : Words) → Holds (start_of g) m s → s.tail ≡ true → guarded 1 ≡ false → image_read (dwords (space_in g m guarded).word ((low_of g + 1) * 4096) 0x34) ≡ Ok (the_image g s.head)
image-reads true m guarded s h tail free =
    let words = image_words (start_of true) (behind s.head) (behind s.tail) in
    six_dwords true (space_in true m guarded).word
    ∙ (λ i. image_read (image_list
    ((image_dword true m guarded words 2 0x14 h.frames free h.image refl refl refl ∙ head_half (start_of true) s.head s.tail) i)
    ((image_dword true m guarded words 3 0x1C h.frames free h.image refl refl refl ∙ tail_half (start_of true) s.head s.tail tail) i)
    ((image_dword true m guarded words 4 0x24 h.frames free h.image refl refl refl ∙ start_half true s.head s.tail) i)
    ((image_dword true m guarded words 5 0x2C h.frames free h.image refl refl refl ∙ control_half (start_of true) s.head s.tail) i)
    ((image_dword true m guarded words 24 0xC4 h.frames free h.image refl refl refl ∙ high_half (start_of true) s.head s.tail) i)
    ((image_dword true m guarded words 25 0xCC h.frames free h.image refl refl refl ∙ low_half (start_of true) s.head s.tail) i)))
    ∙ read_whole true s.head
image-reads false m guarded s h tail free =
    let words = image_words (start_of false) (behind s.head) (behind s.tail) in
    six_dwords false (space_in false m guarded).word
    ∙ (λ i. image_read (image_list
    ((image_dword false m guarded words 2 0x14 h.frames free h.image refl refl refl ∙ head_half (start_of false) s.head s.tail) i)
    ((image_dword false m guarded words 3 0x1C h.frames free h.image refl refl refl ∙ tail_half (start_of false) s.head s.tail tail) i)
    ((image_dword false m guarded words 4 0x24 h.frames free h.image refl refl refl ∙ start_half false s.head s.tail) i)
    ((image_dword false m guarded words 5 0x2C h.frames free h.image refl refl refl ∙ control_half (start_of false) s.head s.tail) i)
    ((image_dword false m guarded words 24 0xC4 h.frames free h.image refl refl refl ∙ high_half (start_of false) s.head s.tail) i)
    ((image_dword false m guarded words 25 0xCC h.frames free h.image refl refl refl ∙ low_half (start_of false) s.head s.tail) i)))
    ∙ read_whole false s.head

-- ---- the fetch

-- the ring's dwords from a head on
abbrev dwords_from : Bool → Bool → (ℕ → ℕ) → List ℕ
dwords_from g true word = []
dwords_from g false word = word (start_of g + 0) ∷ word (start_of g + 4) ∷ word (start_of g + 8) ∷ word (start_of g + 12) ∷ []

four_dwords : (g head : Bool) (m : Memory) (guarded : ℕ → Bool)
    → fetched (space_in g m guarded) 1 (the_image g head) ≡ items_of (whole_ring (space_in g m guarded) 1 (dwords_from g head (space_in g m guarded).word) 262144)
unfolding owns_pages
four_dwords true true m guarded = refl
four_dwords true false m guarded = refl
four_dwords false true m guarded = refl
four_dwords false false m guarded = refl

no_command : (space : GlobalSpace) → whole_ring space 1 [] 262144 ≡ Ok (record { items = none; budget = 262144 })
unfolding ring_items
no_command space = refl

ring_true : (m : Memory) (guarded : ℕ → Bool) (s : Words) → Holds (start_of true) m s → AreStore s.x s.y → guarded 2 ≡ false → dwords_from true false (space_in true m guarded).word ≡ store_words (s.x / 2 ^ 32) (s.y / 2 ^ 32)
ring_true m guarded s h stores free =
    let words = ring_words s.x s.y in
    λ i.
    (ring_dword true m guarded words 0 0 h.frames free h.ring refl refl refl ∙ ap (λ w. w % 2 ^ 32) (first_word s.x s.y) ∙ stores.header) i
    ∷ (ring_dword true m guarded words 0 4 h.frames free h.ring refl refl refl ∙ ap (λ w. w / 2 ^ 32) (first_word s.x s.y)) i
    ∷ (ring_dword true m guarded words 1 8 h.frames free h.ring refl refl refl ∙ ap (λ w. w % 2 ^ 32) (second_word s.x s.y) ∙ stores.high) i
    ∷ (ring_dword true m guarded words 1 12 h.frames free h.ring refl refl refl ∙ ap (λ w. w / 2 ^ 32) (second_word s.x s.y)) i
    ∷ []

ring_false : (m : Memory) (guarded : ℕ → Bool) (s : Words) → Holds (start_of false) m s → AreStore s.x s.y → guarded 2 ≡ false → dwords_from false false (space_in false m guarded).word ≡ store_words (s.x / 2 ^ 32) (s.y / 2 ^ 32)
ring_false m guarded s h stores free =
    let words = ring_words s.x s.y in
    λ i.
    (ring_dword false m guarded words 0 0 h.frames free h.ring refl refl refl ∙ ap (λ w. w % 2 ^ 32) (first_word s.x s.y) ∙ stores.header) i
    ∷ (ring_dword false m guarded words 0 4 h.frames free h.ring refl refl refl ∙ ap (λ w. w / 2 ^ 32) (first_word s.x s.y)) i
    ∷ (ring_dword false m guarded words 1 8 h.frames free h.ring refl refl refl ∙ ap (λ w. w % 2 ^ 32) (second_word s.x s.y) ∙ stores.high) i
    ∷ (ring_dword false m guarded words 1 12 h.frames free h.ring refl refl refl ∙ ap (λ w. w / 2 ^ 32) (second_word s.x s.y)) i
    ∷ []

ring_by : (g : Bool) (m : Memory) (guarded : ℕ → Bool) (s : Words) → Holds (start_of g) m s → AreStore s.x s.y → guarded 2 ≡ false → dwords_from g false (space_in g m guarded).word ≡ store_words (s.x / 2 ^ 32) (s.y / 2 ^ 32)
ring_by true = ring_true
ring_by false = ring_false

fetched_by : (head g : Bool) (m : Memory) (guarded : ℕ → Bool) (s : Words) → Holds (start_of g) m s → AreStore s.x s.y → guarded 2 ≡ false → items_of (whole_ring (space_in g m guarded) 1 (dwords_from g head (space_in g m guarded).word) 262144) ≡ Ok (ring_items_of head s.x s.y)
fetched_by true g m guarded s h stores free = ap items_of (no_command (space_in g m guarded))
fetched_by false g m guarded s h stores free =
    ap (λ ring. items_of (whole_ring (space_in g m guarded) 1 ring 262144)) (ring_by g m guarded s h stores free)
    ∙ ap items_of (one_command (space_in g m guarded) (s.x / 2 ^ 32) (s.y / 2 ^ 32))

pub fetches : (g : Bool) (m : Memory) (guarded : ℕ → Bool) (s : Words) → Holds (start_of g) m s → AreStore s.x s.y → guarded 2 ≡ false → fetched (space_in g m guarded) 1 (the_image g s.head) ≡ Ok (ring_items_of s.head s.x s.y)
fetches g m guarded s h stores free = four_dwords g s.head m guarded ∙ fetched_by s.head g m guarded s h stores free

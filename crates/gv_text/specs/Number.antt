-- Hexadecimal numbers, as a script spells them: 1 to 16 digits, 0 to 9 and a to f.
use Rattle.std.specs.Prelude.{ℕ, ◌+◌, ◌*◌, ◌-◌, List, [], ◌∷◌, Option, Some, None, Bool, nat_le, nat_lt, ◌&&◌, if◌then◌else◌, length}

infixl 10 ◌>>=◌
abbrev pub ◌>>=◌ : {A B : Type 0} → Option A → (A → Option B) → Option B
None >>= f = None
(Some x) >>= f = f x

-- x, where the test holds
abbrev pub provided : {A : Type 0} → Bool → A → Option A
provided b x = if b then Some x else None

abbrev pub digit_of : ℕ → Option ℕ
digit_of b = if nat_le 48 b && nat_le b 57 then Some (b - 48) else (if nat_le 97 b && nat_le b 102 then Some (b - 87) else None)

-- the number that digits stand for when they follow those of n
abbrev pub number_after : ℕ → List ℕ → Option ℕ
number_after n [] = Some n
number_after n (b ∷ bs) = digit_of b >>= λ d. number_after (n * 16 + d) bs

abbrev pub number_of : List ℕ → Option ℕ
number_of word = if nat_le 1 (length word) && nat_le (length word) 16 then number_after 0 word else None

abbrev pub number_below : ℕ → List ℕ → Option ℕ
number_below limit word = number_of word >>= λ n. provided (nat_lt n limit) n

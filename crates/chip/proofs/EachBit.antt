-- What holds of a byte whatever its bits are, computed over all of them.
use Rattle.std.proofs.Common.{◌≡◌, ℕ, zero, suc, Bool, true, false, ◌&&◌, ◌==◌, List, [], ◌∷◌, length, filter, fold, bit_or, slice_index_or, refl, ap, ◌∙◌}
use Rattle.std.specs.List.{zip}
use Rattle.std.proofs.lemmas.Bool.{eqb-true, and_parts}
use Rattle.std.proofs.Math.Bool.{beq}
use Rattle.std.specs.Cmp.{booleans_Decides}
use Rattle.chip.specs.Bytes.{has, byte}

-- a test holds of every list of so many bits
abbrev pub holds_of_all : ℕ → (List Bool → Bool) → Bool
holds_of_all zero p = p []
holds_of_all (suc n) p = holds_of_all n (λ bs. p (true ∷ bs)) && holds_of_all n (λ bs. p (false ∷ bs))

pub holds_of : (bs : List Bool) (p : List Bool → Bool) → holds_of_all (length bs) p ≡ true → p bs ≡ true
holds_of [] p all = all
holds_of (true ∷ bs) p all = holds_of bs (λ xs. p (true ∷ xs)) (and_parts _ _ all).0
holds_of (false ∷ bs) p all = holds_of bs (λ xs. p (false ∷ xs)) (and_parts _ _ all).1

-- the byte that has the bits of a list, from bit 7 to bit 0
abbrev pub listed : List Bool → ℕ
listed bs = byte (slice_index_or bs 0 false) (slice_index_or bs 1 false) (slice_index_or bs 2 false) (slice_index_or bs 3 false)
    (slice_index_or bs 4 false) (slice_index_or bs 5 false) (slice_index_or bs 6 false) (slice_index_or bs 7 false)

-- the masks of the bits that are set, put together
abbrev joined : List Bool → ℕ
joined bs = fold (λ (n : ℕ) (p : ℕ × Bool). bit_or n p.0) 0
    (filter (λ (p : ℕ × Bool). p.1) (zip (0x80 ∷ 0x40 ∷ 0x20 ∷ 0x10 ∷ 0x08 ∷ 0x04 ∷ 0x02 ∷ 0x01 ∷ []) bs))

abbrev same : List Bool → Bool
same bs = joined bs == listed bs

all_same : holds_of_all 8 same ≡ true
all_same = refl

pub joined_byte : (bs : List Bool) → length bs ≡ 8 → joined bs ≡ listed bs
joined_byte bs long = eqb-true _ _ (holds_of bs same (ap (λ (n : ℕ). holds_of_all n same) long ∙ all_same))

-- a bit of a byte is the one that was put there
pub has_bit : (k mask : ℕ) (bs : List Bool) → holds_of_all (length bs) (λ xs. beq (has (listed xs) mask) (slice_index_or xs k false)) ≡ true
    → has (listed bs) mask ≡ slice_index_or bs k false
has_bit k mask bs all = (booleans_Decides _ _).0 (holds_of bs (λ xs. beq (has (listed xs) mask) (slice_index_or xs k false)) all)

-- The words behind a command.
use Rattle.std.specs.Prelude.{◌≡◌, ℕ, ◌-◌, ◌==◌, Bool, true, false, MatchOption, List, [], ◌∷◌, ◌++◌, if◌then◌else◌, Option, Some, None, String, map, string_bytes, bytes_eq, nat_eq, codes}
use Rattle.std.specs.List.{list_any, starts_with}
use Rattle.std.specs.Slice.Iter.{iter_rest}
use Rattle.words.specs.declared.options.Piece.{Piece}
use Rattle.words.specs.declared.options.Piece.TheVariants.{Known, Other}
use Rattle.words.specs.declared.options.Pieces.{Pieces}
use Rattle.words.specs.declared.options.Wrong.{Wrong}
use Rattle.words.specs.declared.options.Wrong.TheVariants.{NoValue, Unknown, TooMany}
use denote.Ref.{Bor}

-- the letters of each word
abbrev pub texts : {Z : Type 0} → List (String Z) → List (List ℕ)
texts = map string_bytes

-- the letters of a word, if there is one
abbrev pub option_now : Option (Bor (List ℕ)) → Option (List ℕ)
option_now None = None
option_now (Some w) = Some w.now

-- one of these names is the word
abbrev pub known : List (Bor (List ℕ)) → List ℕ → Bool
known names w = list_any (λ y. bytes_eq y.now w) names

-- what may be wrong with a word of these letters
pub data Fault : Type 0 where
  no_value : List ℕ → Fault
  unknown : List ℕ → Fault
  too_many : List ℕ → Fault

abbrev pub fault_of : Wrong → Fault
fault_of (NoValue w) = no_value w.now
fault_of (Unknown w) = unknown w.now
fault_of (TooMany w) = too_many w.now

-- and what is said of it
abbrev pub told : Wrong → List ℕ
told (NoValue w) = codes "the last option has no value"
told (Unknown w) = codes "unknown option '" ++ (w.now ++ codes "'")
told (TooMany w) = codes "one word too many: '" ++ (w.now ++ codes "'")

-- the first word with a fault, behind an option that waits for its value, if one does, and where so many words may still
-- come that are neither options nor their values
unfoldable pub first_fault : List (Bor (List ℕ)) → ℕ → Option (List ℕ) → List (List ℕ) → Option Fault
first_fault names left None [] = None
first_fault names left (Some o) [] = Some (no_value o)
first_fault names left (Some o) (v ∷ ws) = first_fault names left None ws
first_fault names left None (w ∷ ws) =
    if known names w then first_fault names left (Some w) ws
    else if starts_with nat_eq w (codes "--") then Some (unknown w)
    else if left == 0 then Some (too_many w)
    else first_fault names (left - 1) None ws

-- the value of the last option of this name, or else what was found before; behind an option that waits for its value, if one does
unfoldable pub option_value : List (Bor (List ℕ)) → List ℕ → Option (List ℕ) → Option (List ℕ) → List (List ℕ) → Option (List ℕ)
option_value names name found waiting [] = found
option_value names name found (Some o) (v ∷ ws) = option_value names name (if bytes_eq o name then Some v else found) None ws
option_value names name found None (w ∷ ws) =
    if known names w then option_value names name found (Some w) ws
    else option_value names name found None ws

-- the word with this number among those that are neither options nor their values
unfoldable pub other_word : List (Bor (List ℕ)) → ℕ → Option (List ℕ) → List (List ℕ) → Option (List ℕ)
other_word names at waiting [] = None
other_word names at (Some o) (v ∷ ws) = other_word names at None ws
other_word names at None (w ∷ ws) =
    if known names w then other_word names at (Some w) ws
    else if at == 0 then Some w
    else other_word names (at - 1) None ws

-- these words begin with the piece, and these are behind it
abbrev pub Begins : List (Bor (List ℕ)) → Piece → List (List ℕ) → List (List ℕ) → Type 0
Begins names (Known w (Some v)) ws us = (known names w.now ≡ true) × (ws ≡ w.now ∷ (v.now ∷ us))
Begins names (Known w None) ws us = (known names w.now ≡ true) × (ws ≡ w.now ∷ []) × (us ≡ [])
Begins names (Other w) ws us = (known names w.now ≡ false) × (ws ≡ w.now ∷ us)

-- none where no word is left, and else the piece with which the words begin
abbrev pub GivesPiece : Pieces → Option Piece → Pieces → Type 0
GivesPiece s r t = (t.takes ≡ s.takes) × MatchOption r (texts (iter_rest s.rest) ≡ []) (λ p. Begins s.takes.options.now p (texts (iter_rest s.rest)) (texts (iter_rest t.rest)))

-- The letters of a name.
use Rattle.std.proofs.Common.{◌≡◌, ℕ, ◌+◌, Bool, true, false, if◌then◌else◌, List, [], ◌∷◌, ◌++◌, length, slice_index, Some, None, Option, Ok, Err, Result, sym, refl, ap, ◌∙◌, ap₂, arith, MatchOption}
use Rattle.std.specs.Result.{result_ok}
use Rattle.line.specs.declared.refusal.Refusal.{Refusal}
use Rattle.line.specs.declared.format.DataBits.{DataBits}
use Rattle.line.specs.declared.format.DataBits.TheVariants.{Seven, Eight}
use Rattle.line.specs.declared.format.StopBits.{StopBits}
use Rattle.line.specs.declared.format.StopBits.TheVariants.{One, Two}
use Rattle.line.specs.declared.format.Format.{Format}
use Rattle.line.specs.Formats.{NumberedBy}
use Rattle.line.specs.Frames.{data_count, stop_count}
use Rattle.words.specs.Names.{NamedBy, size_letter, parity_letter, stops_letter, name_of, Form}

-- a name with these letters about the place of the A
abbrev spelled : ℕ → Bool → ℕ → ℕ → List ℕ
spelled s ad p t = s ∷ ((if ad then 0x41 ∷ [] else []) ++ (p ∷ (t ∷ [])))

-- the letters tell whether there is an A
letters : (ad be : Bool) (s p t a b c : ℕ) → spelled s ad p t ≡ spelled a be b c → (s ≡ a) × (ad ≡ be) × (p ≡ b) × (t ≡ c)
letters true true s p t a b c is = (cc, refl, cc, cc)
letters false false s p t a b c is = (cc, refl, cc, cc)
letters true false s p t a b c is = absurd cc
letters false true s p t a b c is = absurd cc

-- a format has this name exactly where it has these letters
module _ (be : Bool) (a b c : ℕ) where
  form_of : (f : Format) → name_of f ≡ spelled a be b c → Form f a be b c
  form_of f is =
      let l = letters f.address be (size_letter f.size) (parity_letter f.parity) (stops_letter f.stops) a b c is in
      record { of_size = l.0; of_address = l.1; of_parity = l.2; of_stops = l.3 }

  named : (f : Format) → Form f a be b c → name_of f ≡ spelled a be b c
  named f h =
      ap₂ {C = List ℕ} (λ s ad. spelled s ad (parity_letter f.parity) (stops_letter f.stops)) h.of_size h.of_address
      ∙ ap₂ {C = List ℕ} (λ p t. spelled a be p t) h.of_parity h.of_stops

  pub by_letters : (xs : List ℕ) (r : Option Format) → xs ≡ spelled a be b c → MatchOption r ((f : Format) → Form f a be b c → ⊥) (λ f. Form f a be b c) → NamedBy name_of xs r
  by_letters xs None is h = λ f e. h f (form_of f (e ∙ is))
  by_letters xs (Some f) is h = named f h ∙ sym is

pub three : (xs : List ℕ) → length xs ≡ 3 → xs ≡ slice_index xs 0 ∷ (slice_index xs 1 ∷ (slice_index xs 2 ∷ []))
three [] n = absurd (omega arith)
three (a ∷ []) n = absurd (omega arith)
three (a ∷ (b ∷ [])) n = absurd (omega arith)
three (a ∷ (b ∷ (c ∷ []))) n = refl
three (a ∷ (b ∷ (c ∷ (d ∷ xs)))) n = absurd (omega arith)

pub four : (xs : List ℕ) → length xs ≡ 4 → slice_index xs 1 ≡ 0x41 → xs ≡ slice_index xs 0 ∷ (0x41 ∷ (slice_index xs 2 ∷ (slice_index xs 3 ∷ [])))
four [] n is = absurd (omega arith)
four (a ∷ xs) n is = ap {B = List ℕ} (λ ys. a ∷ ys) (three xs (omega arith)) ∙ ap {B = List ℕ} (λ m. a ∷ (m ∷ (slice_index xs 1 ∷ (slice_index xs 2 ∷ [])))) is

-- what has the digit of its count as its letter is named by its letter
pub by_digit : {A : Type 0} (name count : A → ℕ) (l n : ℕ) (r : Result A Refusal) (a : Option A) → ((x : A) → name x ≡ 0x30 + count x) → l ≡ 0x30 + n → a ≡ result_ok r
    → NumberedBy count n r → NamedBy name l a
by_digit name count l n (Ok x) a each at is h = rw is (omega (arith, each x, h, at))
by_digit name count l n (Err e) a each at is h = rw is (λ x same. h.1 x (omega (arith, each x, same, at)))

pub size_digit : (s : DataBits) → size_letter s ≡ 0x30 + data_count s
size_digit Seven = refl
size_digit Eight = refl

pub stops_digit : (s : StopBits) → stops_letter s ≡ 0x30 + stop_count s
stops_digit One = refl
stops_digit Two = refl

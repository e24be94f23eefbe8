-- Pieces that are read one after the other, as one.
use Rattle.std.proofs.Common.{◌≡◌, ℕ, ◌+◌, ◌-◌, ◌^◌, ◌<◌, ◌≤◌, min, Bool, true, false, if◌then◌else◌, Ok, Err, List, [], ◌∷◌, ◌++◌, length, take, Option, Some, None, nat_lt, arith, rules, refl, sym, ap, ap₂, ◌∙◌}
use Rattle.std.specs.List.{position, position_or_len, list_any}
use Rattle.std.specs.Io.KnownBytes.{Consumes}
use Rattle.std.proofs.lemmas.Grind.{common_steps}
use Rattle.std.proofs.lemmas.Bool.Decides.{nat_tests}
use Rattle.line.specs.declared.refusal.Refusal.{Refusal}
use Rattle.line.specs.declared.refusal.Refusal.TheVariants.{TooShort}
use Rattle.ends.specs.Receiver.{ReceiverState, Entry}
use Rattle.ends.specs.Runs.{taken_down}
use Rattle.picture.specs.Scanning.{levels, any_other, piece_answer, after_listed, GoesOn}
use Rattle.capture.specs.Captures.{HasRead, GivesLevels, Continues}

-- none passes among the first, and none among the rest
past : (p : ℕ → Bool) (xs ys : List ℕ) → length xs ≤ position_or_len p xs → length ys ≤ position_or_len p ys → length (xs ++ ys) ≤ position_or_len p (xs ++ ys)
past p [] ys a b = b
past p (x ∷ xs) ys a b = grind (arith, common_steps, past p xs ys)

none_past : (p : ℕ → Bool) (xs : List ℕ) → position p xs ≡ None → length xs ≤ position_or_len p xs
none_past p xs h = grind (arith, common_steps)

past_none : (p : ℕ → Bool) (xs : List ℕ) → length xs ≤ position_or_len p xs → position p xs ≡ None
past_none p xs h = grind (arith, common_steps)

none_append : (p : ℕ → Bool) (xs ys : List ℕ) → position p xs ≡ None → position p ys ≡ None → position p (xs ++ ys) ≡ None
none_append p xs ys a b = past_none p (xs ++ ys) (past p xs ys (none_past p xs a) (none_past p ys b))

consumed : (old mid new : Option (List ℕ)) (bs ps : List ℕ) → Consumes old mid bs → Consumes mid new ps → Consumes old new (bs ++ ps)
consumed None mid new bs ps a b = tt
consumed (Some xs) None new bs ps a b = absurd a
consumed (Some xs) (Some ys) None bs ps a b = absurd b
consumed (Some xs) (Some ys) (Some zs) bs ps a b = search (rules, common_steps)

pub nothing_read : (old : Option (List ℕ)) → HasRead old old 0
nothing_read None = record { bytes = []; read = tt; levels_only = refl; counted = refl }
nothing_read (Some xs) = record { bytes = []; read = refl; levels_only = refl; counted = refl }

pub read_on : (old mid new : Option (List ℕ)) (n c : ℕ) (buffer : List ℕ) → HasRead old mid n → GivesLevels mid new (length buffer) c (take c buffer) → HasRead old new (min (n + c) (2 ^ 64 - 1))
read_on old mid new n c buffer h g =
    let size : length (take c buffer) ≡ c = grind (arith, common_steps, g.within) in
    record {
      bytes = h.bytes ++ take c buffer;
      read = consumed old mid new h.bytes (take c buffer) h.read g.read;
      levels_only = none_append (nat_lt 1) h.bytes (take c buffer) h.levels_only g.levels_only;
      counted = grind (arith, common_steps, h.counted, size);
    }

no_other : (p : ℕ → Bool) (xs : List ℕ) → length xs ≤ position_or_len p xs → list_any p xs ≡ false
no_other p [] h = refl
no_other p (x ∷ xs) h = grind (arith, common_steps, no_other p xs)

-- a piece of levels has no other byte
pub levels_alone : (xs : List ℕ) → position (nat_lt 1) xs ≡ None → any_other xs ≡ false
levels_alone xs h = no_other (nat_lt 1) xs (none_past (nat_lt 1) xs h)

-- where a scan refuses a piece of levels, more entries arrive than there are places
pub too_many : (r : ReceiverState) (bs : List ℕ) (places : ℕ) (e : Refusal) → position (nat_lt 1) bs ≡ None → Err e ≡ piece_answer r bs places → places < length (taken_down r (levels bs))
too_many r bs places e none is = go (nat_lt places (length (taken_down r (levels bs)))) refl (rw (levels_alone bs none) at is)
  where
    go : (b : Bool) → nat_lt places (length (taken_down r (levels bs))) ≡ b
        → Err e ≡ (if b then Err TooShort else Ok (length (taken_down r (levels bs)))) → places < length (taken_down r (levels bs))
    go true test is = grind (arith, nat_tests, test)
    go false test is = cc

-- what a scan of the bytes that were read gives, where it goes on
pub continues : (old new : Option (List ℕ)) (r s : ReceiverState) (bs : List ℕ) (es : List Entry) → Consumes old new bs → GoesOn r bs → s ≡ after_listed r (levels bs) → es ≡ taken_down r (levels bs)
    → Continues old new r s es
continues None new r s bs es read on state list = tt
continues (Some xs) None r s bs es read on state list = absurd read
continues (Some xs) (Some ys) r s bs es read on state list =
    ap (λ (zs : List ℕ). taken_down r (levels zs)) read ∙ on ys ∙ ap₂ (λ (zs : List Entry) (u : ReceiverState). zs ++ taken_down u (levels ys)) (sym list) (sym state)

-- a count is one of a u64
pub count_fits : (old new : Option (List ℕ)) (n : ℕ) → HasRead old new n → min (n + 0) (2 ^ 64 - 1) ≡ n
count_fits old new n h = grind (arith, common_steps, h.counted)

-- The largest byte is above 1 where some byte is.
use Rattle.std.proofs.Common.{◌≡◌, ℕ, max, Bool, false, ◌||◌, nat_lt, List, [], ◌∷◌, fold, sym, ◌∙◌, MatchOption, arith, rules}
use Rattle.std.specs.List.{list_any, reduce}
use Rattle.std.proofs.lemmas.Bool.Decides.{nat_tests}
use Rattle.std.proofs.lemmas.Iterator.{YieldsList-from_slice}
use Rattle.std.proofs.lemmas.Iterator.Adapters.{option_map_id}
use Rattle.std.proofs.lemmas.Iterator.Consumers.{YieldsList-from_copied, max_from_yields_List}
use Rattle.picture.proofs.scanning.has_other_in.Goals as goal

largest_above : (m : ℕ) (bs : List ℕ) → nat_lt 1 (fold max m bs) ≡ (nat_lt 1 m || list_any (nat_lt 1) bs)
largest_above m [] = grind (arith, nat_tests)
largest_above m (b ∷ bs) = largest_above (max m b) bs ∙ grind (arith, nat_tests)

some_above : (bs : List ℕ) (r : Bool) → MatchOption (reduce max bs) (r ≡ false) (λ m. r ≡ nat_lt 1 m) → r ≡ list_any (nat_lt 1) bs
some_above [] r h = h
some_above (b ∷ bs) r h = h ∙ largest_above b bs

pub returns : goal.returns
returns c =
    let most : c.max.result ≡ reduce max c.args.part.now =
    sym (option_map_id _) ∙ max_from_yields_List _ _ c.max.ensures.ran (YieldsList-from_copied (YieldsList-from_slice c.args.part.now cc)) in
    some_above c.args.part.now _ (rw (← most) (search rules))

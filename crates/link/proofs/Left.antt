-- What is left of a list of levels after some of them.
use Rattle.std.proofs.Common.{◌≡◌, ℕ, zero, suc, ◌-◌, ◌≤◌, List, [], ◌∷◌, length, get_or, drop, sym, refl, ap, ◌∙◌, arith, length-drop}
use Rattle.line.specs.declared.level.Level.{Level}
use Rattle.line.specs.declared.level.Level.TheVariants.{Mark}
use Rattle.ends.specs.Sender.{first_of, rest_of}

pub first_drop : (x : ℕ) (l : List Level) → first_of (drop x l) ≡ get_or l x Mark
first_drop zero [] = refl
first_drop zero (a ∷ l) = refl
first_drop (suc x) [] = refl
first_drop (suc x) (a ∷ l) = first_drop x l

pub rest_drop : (x : ℕ) (l : List Level) → rest_of (drop x l) ≡ drop (suc x) l
rest_drop zero [] = refl
rest_drop zero (a ∷ l) = refl
rest_drop (suc x) [] = refl
rest_drop (suc x) (a ∷ l) = rest_drop x l

pub nothing_left : (x : ℕ) (l : List Level) → drop x l ≡ [] → length l ≤ x
nothing_left x l e =
    let k : length l - x ≡ 0 = sym (length-drop x l) ∙ ap length e in
    omega arith

-- No read goes unnoted: a history has the entries that the reads answered.
use Rattle.std.proofs.Common.{◌≡◌, ℕ, suc, pred, ◌+◌, Bool, true, false, if◌then◌else◌, nat_le, List, [], ◌∷◌, ◌++◌, length, take, sym, refl, ap, ◌∙◌, append_assoc, append-nil, arith}
use lib.Bits.{bit_or}
use Rattle.std.proofs.lemmas.List.{length_push, length-take-le, map-append}
use Rattle.std.proofs.lemmas.Bool.Decides.{nat_tests}
use Rattle.ends.specs.Receiver.{Entry, joined, hears, arrive, without_oldest}
use Rattle.link.specs.declared.act.Act.{Act}
use Rattle.link.specs.declared.act.Act.TheVariants.{Load, Send, Receive, Noise, Read}
use Rattle.link.specs.Link.{LinkState, after_act}
use Rattle.link.specs.History.{History, blank, numbered, noted, noted_read, history_from, history, answered, read_answers, noted_entries}

abbrev grown : Bool → ℕ → ℕ
grown full n = (if full then pred n else n) + 1

joined_length : (room : ℕ) (es : List Entry) (e : Entry) → length (joined room es e) ≡ grown (nat_le room (length es)) (length es)
joined_length room [] e = go (nat_le room 0)
  where
    go : (b : Bool) → ◌≡◌ {A = ℕ} 1 (grown b 0)
    go true = refl
    go false = refl
joined_length room (u ∷ []) e = go (nat_le room 1)
  where
    go : (b : Bool) → length (if b then (e.0, bit_or (bit_or e.1 u.1) 1) ∷ [] else u ∷ (e ∷ [])) ≡ grown b 1
    go true = refl
    go false = refl
joined_length room (u ∷ (v ∷ es)) e =
    let n : ℕ = length es in
    let ih : length (joined (pred room) (v ∷ es) e) ≡ grown (nat_le (pred room) (suc n)) (suc n) = joined_length (pred room) (v ∷ es) e in
    ap suc ih ∙ more n
  where
    more : (n : ℕ) → suc (grown (nat_le (pred room) (suc n)) (suc n)) ≡ grown (nat_le room (suc (suc n))) (suc (suc n))
    more n = grind (arith, nat_tests)

numbered_length : (room : ℕ) (us : List ℕ) (e : Entry) (es : List Entry) (n : ℕ) → length (numbered room us (e ∷ es) n) ≡ grown (nat_le room (length us)) (length us)
numbered_length room us e es n = go (nat_le room (length us))
  where
    go : (b : Bool) → length ((if b then take (pred (length us)) us else us) ++ (n ∷ [])) ≡ grown b (length us)
    go true = length_push (take (pred (length us)) us) n ∙ ap (λ (k : ℕ). k + 1) (length-take-le (pred (length us)) us (omega arith))
    go false = length_push us n

-- the numbers of the unread ones are as many as the unread entries
abbrev Same : LinkState → History → Type 0
Same m h = length h.unread ≡ length m.receiver.unread

same_arrival : (room : ℕ) (us : List ℕ) (es arrived : List Entry) (n : ℕ) → length us ≡ length es
    → length (numbered room us arrived n) ≡ length (arrive room es arrived)
same_arrival room us es [] n e = e
same_arrival room us es (x ∷ xs) n e =
    numbered_length room us x xs n ∙ ap (λ (k : ℕ). grown (nat_le room k) k) e ∙ sym (joined_length room es x)

same_read : (us : List ℕ) (es : List Entry) (h : History) → h.unread ≡ us → length us ≡ length es
    → length (noted_read us es h).unread ≡ length (without_oldest es)
same_read [] [] h is e = ap length is
same_read [] (x ∷ es) h is e = absurd (omega arith)
same_read (u ∷ us) [] h is e = absurd (omega arith)
same_read (u ∷ us) (x ∷ es) h is e = omega arith

same_act : (m : LinkState) (a : Act) (h : History) → Same m h → Same (after_act m a) (noted m a h)
same_act m (Load c) h e = e
same_act m Send h e = e
same_act m Receive h e =
    same_arrival m.receiver.capacity h.unread m.receiver.unread (hears m.receiver m.line).arrived (length h.received) e
same_act m (Noise l) h e =
    same_arrival m.receiver.capacity h.unread m.receiver.unread (hears m.receiver l).arrived (length h.received) e
same_act m Read h e = same_read h.unread m.receiver.unread h refl e

noted_oldest : (us : List ℕ) (es : List Entry) (h : History) → length us ≡ length es
    → noted_entries (noted_read us es h) ≡ noted_entries h ++ take 1 es
noted_oldest [] [] h e = sym (append-nil (noted_entries h))
noted_oldest [] (x ∷ es) h e = absurd (omega arith)
noted_oldest (u ∷ us) [] h e = absurd (omega arith)
noted_oldest (u ∷ us) (x ∷ es) h e = map-append (λ (y : ℕ × Entry). y.1) h.reads ((u, x) ∷ [])

noted_act : (m : LinkState) (a : Act) (h : History) → Same m h → noted_entries (noted m a h) ≡ noted_entries h ++ answered m a
noted_act m (Load c) h e = sym (append-nil (noted_entries h))
noted_act m Send h e = sym (append-nil (noted_entries h))
noted_act m Receive h e = sym (append-nil (noted_entries h))
noted_act m (Noise l) h e = sym (append-nil (noted_entries h))
noted_act m Read h e = noted_oldest h.unread m.receiver.unread h e

noted_from : (xs : List Act) (m : LinkState) (h : History) → Same m h → noted_entries (history_from m h xs) ≡ noted_entries h ++ read_answers m xs
noted_from [] m h e = sym (append-nil (noted_entries h))
noted_from (a ∷ xs) m h e =
    noted_from xs (after_act m a) (noted m a h) (same_act m a h e)
    ∙ ap {B = List Entry} (λ l. l ++ read_answers (after_act m a) xs) (noted_act m a h e)
    ∙ append_assoc (noted_entries h) (answered m a) (read_answers (after_act m a) xs)

pub all_noted : (m : LinkState) → m.receiver.unread ≡ [] → (xs : List Act) → noted_entries (history m xs) ≡ read_answers m xs
all_noted m e xs = noted_from xs m blank (sym (ap length e))

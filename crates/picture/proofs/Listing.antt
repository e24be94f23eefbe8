-- What is listed of a picture, piece by piece and of frames.
use Rattle.std.proofs.Common.{◌≡◌, ℕ, suc, ◌+◌, ◌-◌, ◌<◌, ◌≤◌, List, [], ◌∷◌, ◌++◌, length, map, take, drop, set, get_or, sym, refl, ap, ◌∙◌, arith}
use Rattle.std.specs.Result.{result_ok}
use Rattle.std.specs.Option.{option_to_list}
use Rattle.std.specs.List.{AllZip}
use Rattle.std.proofs.lemmas.List.{append_assoc, map-append, map_more, take-append-drop, take_more, take_more_set, drop_more, drop-set-lt, drop-drop, length-set}
use Rattle.std.proofs.lemmas.Slice.Zip.{all_zipped_more}
use Rattle.line.specs.declared.level.Level.{Level}
use Rattle.line.specs.declared.level.Level.TheVariants.{Space, Mark}
use Rattle.line.specs.Levels.{level_of}
use Rattle.ends.specs.declared.timing.Timing.{Timing}
use Rattle.ends.specs.Receiver.{ReceiverState, Entry, idle, hears, after_clock, after_read, oldest, without_oldest, with}
use Rattle.ends.specs.BareReceiver.{at_rest}
use Rattle.ends.specs.Runs.{after_levels, taken_down, transmission}
use Rattle.ends.proofs.Arriving.{hears_all}
use Rattle.ends.proofs.Reading.{unread_apart, still_none, first_quiet, rest_quiet, read_last}
use Rattle.ends.specs.Soundness.{sound_bare}
use Rattle.picture.specs.Drawing.{bytes}
use Rattle.picture.specs.Scanning.{levels, listed, after_listed, Recovers, GoesOn}

pub goes_on : (bs : List ℕ) (r : ReceiverState) → GoesOn r bs
goes_on [] r more = refl
goes_on (b ∷ bs) r more =
    let c : ReceiverState = after_clock r (level_of b) in
    let us : List Entry = without_oldest c.unread in
    let came : List Entry = (hears r (level_of b)).arrived in
    ap {B = List Entry} (λ es. came ++ es) (sym (unread_apart c us (levels (bs ++ more))) ∙ goes_on bs (after_read c) more)
    ∙ sym (append_assoc came (taken_down (after_read c) (levels bs)) (taken_down (after_listed (after_read c) (levels bs)) (levels more)))
    ∙ ap {B = List Entry} (λ es. (came ++ es) ++ taken_down (after_listed (after_read c) (levels bs)) (levels more)) (unread_apart c us (levels bs))

-- a read of nothing
unread_none : (u : ReceiverState) → u.unread ≡ [] → after_read u ≡ u
unread_none u none =
    ap (λ (us : List Entry). with u (without_oldest us) u.previous u.doing) none ∙ sym (ap (λ (us : List Entry). with u us u.previous u.doing) none)

listed_last : (l : Level) (rest : List Level) (r : ReceiverState) → r.unread ≡ [] → (ls : List Level) → taken_down r ls ≡ []
    → after_listed r (ls ++ l ∷ rest) ≡ after_listed (after_read (after_levels r (ls ++ l ∷ []))) rest
listed_last l rest r none [] quiet = refl
listed_last l rest r none (x ∷ ls) quiet =
    let still = still_none r x none (first_quiet r x ls quiet) in
    ap (λ (m : ReceiverState). after_listed m (ls ++ l ∷ rest)) (unread_none (after_clock r x) still)
    ∙ listed_last l rest (after_clock r x) still ls (rest_quiet r x ls quiet)

-- the receiver u after the first k bytes, with the last of which alone an entry may arrive
module _ (r u : ReceiverState) (none : r.unread ≡ []) (bs : List ℕ) (k : ℕ) (some : 0 < k) (within : k ≤ length bs)
    (state : u ≡ after_levels r (map level_of (take k bs))) (quiet : taken_down r (map level_of (take (k - 1) bs)) ≡ []) where
  abbrev front : List Level
  front = map level_of (take (k - 1) bs)

  abbrev last : Level
  last = level_of (get_or bs (k - 1) 0)

  heard : map level_of (take k bs) ≡ front ++ last ∷ []
  heard =
      let back : k - 1 + 1 ≡ k = omega arith in
      sym (ap (λ (i : ℕ). map level_of (take i bs)) back) ∙ map_more level_of bs (k - 1) 0 (omega arith)

  whole : levels bs ≡ front ++ last ∷ levels (drop k bs)
  whole =
      sym (ap (λ (xs : List ℕ). levels xs) (take-append-drop k bs))
      ∙ map-append level_of (take k bs) (drop k bs)
      ∙ ap (λ (ls : List Level). ls ++ levels (drop k bs)) heard
      ∙ append_assoc front (last ∷ []) (levels (drop k bs))

  now : u ≡ after_levels r (front ++ last ∷ [])
  now = state ∙ ap (λ (ls : List Level). after_levels r ls) heard

  pub taken_on : taken_down r (levels bs) ≡ option_to_list (result_ok (oldest u.unread)) ++ taken_down (after_read u) (levels (drop k bs))
  taken_on =
      ap (λ (ls : List Level). taken_down r ls) whole
      ∙ read_last last (levels (drop k bs)) r none front quiet
      ∙ sym (ap {B = List Entry} (λ x. option_to_list (result_ok (oldest x.unread)) ++ taken_down (after_read x) (levels (drop k bs))) now)

  pub listed_on : after_listed r (levels bs) ≡ after_listed (after_read u) (levels (drop k bs))
  listed_on =
      ap (λ (ls : List Level). after_listed r ls) whole
      ∙ listed_last last (levels (drop k bs)) r none front quiet
      ∙ sym (ap {B = ReceiverState} (λ x. after_listed (after_read x) (levels (drop k bs))) now)

levels_bytes : (ls : List Level) → levels (bytes ls) ≡ ls
levels_bytes [] = refl
levels_bytes (Space ∷ ls) = ap {B = List Level} (λ l. Space ∷ l) (levels_bytes ls)
levels_bytes (Mark ∷ ls) = ap {B = List Level} (λ l. Mark ∷ l) (levels_bytes ls)

pub recovers : (t : Timing) (bs : List ℕ) → Recovers t bs (listed t bs)
recovers t bs s oks agree inside xs m narrow is =
    ap (λ (b : List ℕ). taken_down (at_rest t) (levels b)) is
    ∙ ap (λ (l : List Level). taken_down (at_rest t) l) (levels_bytes (transmission s xs m))
    ∙ hears_all (at_rest t) (sound_bare t [] Mark idle) refl refl s oks agree inside xs m narrow

-- of the entries `all`, `coming` are still to come; the first places of `list` hold what the others give, one each, and the rest is as in `old`
pub record Partly {E : Type 0} (gives : Entry → E → Type 0) (all : List Entry) (old : List E) (coming : List Entry) (list : List E) (found : ℕ) : Type 0 where
  pub follow : drop found all ≡ coming
  pub written : AllZip gives (take found all) (take found list)
  pub kept : drop found list ≡ drop found old
  pub place : found + length coming ≡ length all
  pub room : length all ≤ length list

module _ {E : Type 0} {gives : Entry → E → Type 0} {all : List Entry} {old : List E} {coming : List Entry} {list : List E} {k : ℕ}
    (p : Partly gives all old coming list k) {after : List E} {next : ℕ} (es : List Entry) where
  pub none_came : coming ≡ es → after ≡ list → next ≡ k → Partly gives all old es after next
  none_came e l n = rw (l, n, ← e) p

  pub one_came : (e : Entry) (x : E) → coming ≡ e ∷ es → gives e x → after ≡ set list k x → next ≡ k + 1 → Partly gives all old es after next
  one_came e x more g l n =
      let size : length coming ≡ suc (length es) = ap length more in
      let within : k < length all = omega (arith, p.place) in
      let fits : k < length list = omega (arith, p.place, p.room) in
      let follows : get_or all k e ∷ drop (k + 1) all ≡ e ∷ es = sym (drop_more all k e within) ∙ p.follow ∙ more in
      let first : get_or all k e ≡ e = cc in
      rw (l, n)
      record {
        follow = cc;
        written = rw (take_more all k e within, take_more_set list k x fits, first) (all_zipped_more gives (take k all) (take k list) e x p.written g);
        kept = drop-set-lt (k + 1) list k x (omega arith) ∙ sym (drop-drop 1 k list) ∙ ap (drop 1) p.kept ∙ drop-drop 1 k old;
        place = omega (arith, p.place);
        room = rw length-set p.room;
      }

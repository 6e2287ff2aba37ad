-- The numbers of refusals, and what is known of a call whose tests no refusal fits, or one does.
use mathlib.Core.Path.{◌≡◌, refl, sym, ap, ◌∙◌, subst}
use Prim.Native.Nat.{ℕ}
use native.Mathlib.Omega.{arith}
use mathlib.Core.Bool.{Bool, true, false, not, false≢true}
use mathlib.Core.Option.{Option, none, some}
use mathlib.Core.List.{List, [], ◌∷◌, ◌++◌}
use lib.ListN.{length}
use lib.Dec.{eqb}
use borrow.Author.Tests.{eqb-true, not-true}
use Rattle.language.specs.declared.Ending.{Ending}
use Rattle.language.specs.declared.Ending.TheVariants.{Finished, Spent, ListEmpty, ListFull, Range, ZeroDivisor, NoInput, PaperOut, NoText, DeepCalls, Damaged, StewardCall}
use Rattle.language.specs.declared.Fault.{Fault}
use Rattle.language.specs.declared.Fault.TheVariants.{LongText, StrayMark, Deep, BadCounter, BadConstant, Unfinished, TableFull, ManyCounters}
use Rattle.language.specs.Answers.{fault_number, ending_number}
use Rattle.language.specs.Limits.{max_height}
use Rattle.language.specs.Letters.{is_letter, letter_index}
use Rattle.language.specs.Values.{lawful}
use Rattle.language.specs.Roles.{is_permission, is_role, bars}
use Rattle.language.specs.Syntax.{Expr}
use Rattle.language.specs.Reading.{Reading, refused, accepted, read}
use Rattle.language.proofs.Answers.{fault-bounds}
use Rattle.language.proofs.Between.{between-bounds}
use Rattle.book.specs.declared.Refusal.{Refusal}
use Rattle.book.specs.declared.Refusal.TheVariants.{NoSuchLetter, BadText, NotStanding, BadInput, BadList, BadStore, NotForCashiers, BadMark}
use Rattle.book.specs.Calls.{Run, Call, defines, withdraws, runs}
use Rattle.book.specs.Refusals.{refusal_number, is_refusal, View, unless, fault_of, first, zero_or, refused_by, opening, not_standing, closing, tests, refusal}

-- ── numbers ─────────────────────────────────────────────────────────────────────────────────────

-- no ending's number refuses
pub ending-no-refusal : (e : Ending) → is_refusal (ending_number e) ≡ false
ending-no-refusal Finished = refl
ending-no-refusal Spent = refl
ending-no-refusal ListEmpty = refl
ending-no-refusal ListFull = refl
ending-no-refusal Range = refl
ending-no-refusal ZeroDivisor = refl
ending-no-refusal NoInput = refl
ending-no-refusal PaperOut = refl
ending-no-refusal NoText = refl
ending-no-refusal DeepCalls = refl
ending-no-refusal Damaged = refl
ending-no-refusal StewardCall = refl

fault-refuses : (f : Fault) → is_refusal (fault_number f) ≡ true
fault-refuses LongText = refl
fault-refuses StrayMark = refl
fault-refuses Deep = refl
fault-refuses BadCounter = refl
fault-refuses BadConstant = refl
fault-refuses Unfinished = refl
fault-refuses TableFull = refl
fault-refuses ManyCounters = refl

-- every refusal's number refuses
pub refusal-refuses : (r : Refusal) → is_refusal (refusal_number r) ≡ true
refusal-refuses NoSuchLetter = refl
refusal-refuses (BadText f) = fault-refuses f
refusal-refuses NotStanding = refl
refusal-refuses BadInput = refl
refusal-refuses BadList = refl
refusal-refuses BadStore = refl
refusal-refuses NotForCashiers = refl
refusal-refuses BadMark = refl

-- no refusal's number is 0
pub refusal-not-zero : (r : Refusal) → refusal_number r ≡ 0 → ⊥
refusal-not-zero r e = false≢true (sym (ap is_refusal e) ∙ refusal-refuses r)

-- ── lists of tests ──────────────────────────────────────────────────────────────────────────────

some-none : {X : Type 0} (r : Refusal) → some r ≡ none → X
some-none r e = let z : ◌≡◌ {A = ℕ} 0 1 = cc in absurd (omega arith)

-- 0 says that no refusal fits
pub none-fits : (l : List (Option Refusal)) (n : ℕ) → n ≡ refused_by l → n ≡ 0 → first l ≡ none
none-fits l n e z = go (first l) (sym e ∙ z)
  where
    go : (o : Option Refusal) → zero_or o ≡ 0 → o ≡ none
    go none q = refl
    go (some r) q = absurd (refusal-not-zero r q)

-- where no refusal of a list fits, those after it decide
pub first-after : (a b : List (Option Refusal)) → first a ≡ none → first (a ++ b) ≡ first b
first-after [] b e = refl
first-after (none ∷ a) b e = first-after a b e
first-after (some r ∷ a) b e = some-none r e

-- else those after it do not matter
pub refused-early : (a b : List (Option Refusal)) (n : ℕ) → n ≡ refused_by a → (n ≡ 0 → ⊥) → n ≡ refused_by (a ++ b)
refused-early [] b n e h = absurd (h e)
refused-early (none ∷ a) b n e h = refused-early a b n e h
refused-early (some r ∷ a) b n e h = e

pub refused-later : (a b : List (Option Refusal)) (n m : ℕ) → n ≡ refused_by a → n ≡ 0 → m ≡ refused_by b → m ≡ refused_by (a ++ b)
refused-later a b n m e z h = h ∙ ap zero_or (sym (first-after a b (none-fits a n e z)))

-- every entry of a list is none
abbrev AllNone : List (Option Refusal) → Type 0
AllNone [] = Unit {0}
AllNone (x ∷ l) = (x ≡ none) × AllNone l

all_none : (l : List (Option Refusal)) → first l ≡ none → AllNone l
all_none [] e = tt
all_none (none ∷ l) e = (refl, all_none l e)
all_none (some r ∷ l) e = some-none r e

holds : (u : Bool) (r : Refusal) → unless u r ≡ none → u ≡ true
holds true r e = refl
holds false r e = some-none r e

-- a text without a fault is accepted
pub faultless : (x : Reading) → fault_of x ≡ none → (w : Expr) × (x ≡ accepted w)
faultless (refused r) e = some-none (BadText r) e
faultless (accepted w) e = (w, refl)

-- ── no refusal fits ─────────────────────────────────────────────────────────────────────────────

-- the byte of a call's letter
abbrev pub letter_of : Call → ℕ
letter_of (defines l k t) = l
letter_of (withdraws l) = l
letter_of (runs x) = x.letter

module _ (v : View) where
  -- what opens the tests of a call
  pub record Opened (l : ℕ) : Type 0 where
    pub sound : v.sound ≡ true
    pub letter : is_letter l ≡ true

  pub opened : (l : ℕ) (r : List (Option Refusal)) → first (opening v l ++ r) ≡ none → Opened l
  opened l r e =
      let k = all_none (opening v l ++ r) e in
      record { sound = holds _ BadStore k.0; letter = holds _ NoSuchLetter k.1.0 }

  pub free-opened : (c : Call) → refusal v c ≡ none → Opened (letter_of c)
  unfolding refusal tests
  free-opened (defines l k t) e = opened l (unless (is_permission k) BadMark ∷ fault_of (read t) ∷ []) e
  free-opened (withdraws l) e = opened l (not_standing v l ∷ []) e
  free-opened (runs x) e = opened x.letter (unless (is_role x.role) BadMark ∷ closing v x) e

  pub free-letter : (c : Call) → refusal v c ≡ none → is_letter (letter_of c) ≡ true
  free-letter c e = (free-opened c e).letter

  -- a define that no refusal fits
  pub record FreeText (k : ℕ) (t : List ℕ) : Type 0 where
    pub permission : is_permission k ≡ true
    pub text : fault_of (read t) ≡ none

  pub free-text : (l k : ℕ) (t : List ℕ) → refusal v (defines l k t) ≡ none → FreeText k t
  unfolding refusal tests
  free-text l k t e =
      let f = (all_none (tests v (defines l k t)) e).1.1 in
      record { permission = holds _ BadMark f.0; text = f.1.0 }

  -- a run that no refusal fits
  pub record Free (x : Run) : Type 0 where
    pub sound : v.sound ≡ true
    pub letter : is_letter x.letter ≡ true
    pub role : is_role x.role ≡ true
    pub standing : v.stands (letter_index x.letter) ≡ true
    pub allowed : bars x.role (v.permission (letter_index x.letter)) ≡ false
    pub inputs : lawful x.inputs ≡ true
    pub places : length x.list ≡ max_height

  pub free-run : (x : Run) → refusal v (runs x) ≡ none → Free x
  unfolding refusal tests
  free-run x e =
      let o = opened x.letter (unless (is_role x.role) BadMark ∷ closing v x) e in
      let k = (all_none (tests v (runs x)) e).1.1 in
      record {
        sound = o.sound;
        letter = o.letter;
        role = holds _ BadMark k.0;
        standing = holds _ NotStanding k.1.0;
        allowed = not-true _ (holds _ NotForCashiers k.1.1.0);
        inputs = holds _ BadInput k.1.1.1.0;
        places = eqb-true (length x.list) max_height (holds _ BadList k.1.1.1.1.0);
      }

-- ── a refusal fits ──────────────────────────────────────────────────────────────────────────────

-- neither 13 nor 29
abbrev pub Safe : ℕ → Type 0
Safe n = (n ≡ 13 → ⊥) × (n ≡ 29 → ⊥)

abbrev SafeRefusal : Option Refusal → Type 0
SafeRefusal none = Unit {0}
SafeRefusal (some r) = Safe (refusal_number r)

abbrev AllSafe : List (Option Refusal) → Type 0
AllSafe [] = Unit {0}
AllSafe (x ∷ l) = SafeRefusal x × AllSafe l

safe-first : (l : List (Option Refusal)) → AllSafe l → SafeRefusal (first l)
safe-first [] h = tt
safe-first (none ∷ l) h = safe-first l h.1
safe-first (some r ∷ l) h = h.0

safe-unless : (u : Bool) (r : Refusal) → Safe (refusal_number r) → SafeRefusal (unless u r)
safe-unless true r h = tt
safe-unless false r h = h

safe-fault : (x : Reading) → SafeRefusal (fault_of x)
safe-fault (refused r) = let k = between-bounds 2 9 (fault_number r) (fault-bounds r) in (λ e. omega arith, λ e. omega arith)
safe-fault (accepted w) = tt

safe-letter : (u : Bool) → SafeRefusal (unless u NoSuchLetter)
safe-letter u = safe-unless u NoSuchLetter (λ e. omega arith, λ e. omega arith)

safe-mark : (u : Bool) → SafeRefusal (unless u BadMark)
safe-mark u = safe-unless u BadMark (λ e. omega arith, λ e. omega arith)

safe-standing : (u : Bool) → SafeRefusal (unless u NotStanding)
safe-standing u = safe-unless u NotStanding (λ e. omega arith, λ e. omega arith)

safe-store : (u : Bool) → u ≡ true → SafeRefusal (unless u BadStore)
safe-store true h = tt
safe-store false h = absurd (false≢true h)

safe-both : (a b : List (Option Refusal)) → AllSafe a → AllSafe b → AllSafe (a ++ b)
safe-both [] b h k = k
safe-both (x ∷ a) b h k = (h.0, safe-both a b h.1 k)

module _ (v : View) (fine : v.sound ≡ true) where
  safe-opening : (l : ℕ) → AllSafe (opening v l)
  safe-opening l = (safe-store v.sound fine, (safe-letter (is_letter l), tt))

  safe-closing : (x : Run) → AllSafe (closing v x)
  safe-closing x =
      let a = safe-standing (v.stands (letter_index x.letter)) in
      let b = safe-unless (not (bars x.role (v.permission (letter_index x.letter)))) NotForCashiers (λ e. omega arith, λ e. omega arith) in
      let c = safe-unless (lawful x.inputs) BadInput (λ e. omega arith, λ e. omega arith) in
      let d = safe-unless (eqb (length x.list) max_height) BadList (λ e. omega arith, λ e. omega arith) in
      (a, (b, (c, (d, tt))))

  all-safe : (c : Call) → AllSafe (tests v c)
  unfolding tests
  all-safe (defines l k t) =
      safe-both (opening v l) (unless (is_permission k) BadMark ∷ fault_of (read t) ∷ []) (safe-opening l)
      (safe-mark (is_permission k), (safe-fault (read t), tt))
  all-safe (withdraws l) = safe-both (opening v l) (not_standing v l ∷ []) (safe-opening l) (safe-standing (v.stands (letter_index l)), tt)
  all-safe (runs x) = (safe-store v.sound fine, (safe-letter (is_letter x.letter), (safe-mark (is_role x.role), safe-closing x)))

  -- where the store is sound, no call is refused by 13 or 29
  pub safe-refusal : (c : Call) (r : Refusal) → refusal v c ≡ some r → Safe (refusal_number r)
  unfolding refusal
  safe-refusal c r e = subst SafeRefusal e (safe-first (tests v c) (all-safe c))

-- The branches of define and withdraw over a store of lent arrays.
use mathlib.Core.Path.{◌≡◌, refl, sym, ap, ◌∙◌}
use Prim.Native.Nat.{ℕ, ◌*◌}
use lib.IntN.{ℤ}
use lib.ListN.{set}
use Rattle.std.proofs.Math.Seq.{paste}
use Rattle.language.specs.Limits.{max_cells}
use Rattle.lent.specs.Lent.{Puts, PutsText}
use mathlib.Core.Option.{Option, none, some}
use mathlib.Core.List.{List, [], ◌∷◌, ◌++◌}
use Rattle.std.specs.Prelude.{Result, Ok, Err}
use Rattle.language.specs.declared.Fault.{Fault}
use Rattle.language.specs.declared.Table.{Table}
use Rattle.language.specs.Answers.{fault_number}
use Rattle.language.specs.Letters.{letter_index}
use Rattle.language.specs.Syntax.{Expr}
use Rattle.language.specs.Layout.{layout, cleared}
use Rattle.language.specs.Reading.{Reading, refused, accepted, read, expr_of}
use Rattle.language.specs.Roles.{open_permission}
use Rattle.linker.specs.Linked.{linked}
use Rattle.book.specs.declared.Refusal.{Refusal}
use Rattle.book.specs.declared.Refusal.TheVariants.{BadText}
use Rattle.book.specs.Calls.{Call, defines, withdraws}
use Rattle.book.specs.Refusals.{refusal_number, fault_of, first, mark_tests, text_tests, tests, refusal, answer}
use Rattle.book.specs.Store.{Store, store_of, with_entry, store_accepts, store_view, store_call, changed}
use Rattle.book.proofs.Refusals.{first-after}
use Rattle.book.proofs.Store.{call-accepted}

-- the first refusal of a list is that of a longer one
first-early : (a b : List (Option Refusal)) (r : Refusal) → first a ≡ some r → first (a ++ b) ≡ some r
first-early [] b r e = cc
first-early (none ∷ a) b r e = first-early a b r e
first-early (some s ∷ a) b r e = e

-- where a table is pasted into the cells, and its count and the permission are set, the entry is put
pub puts-table : (c : List ℤ) (u ms : List ℕ) (k : ℕ) (t : Table) (m : ℕ) (c' : List ℤ) → c' ≡ paste c (k * max_cells) t.cells max_cells
    → Puts c u ms k t m c' (set u k t.used) (set ms k m)
unfolding with_entry
puts-table c u ms k t m c' e v = ap (λ l. store_of l (set u k t.used) (set ms k m) v) e

-- a refused call answers the number of its refusal and leaves the store
call-refused : (st : Store) (c : Call) (r : Refusal) → first (tests (store_view st) c) ≡ some r → changed st (refusal_number r) c ≡ store_call st c
unfolding store_call refusal answer
call-refused st c r e = rw e

-- ── define ──────────────────────────────────────────────────────────────────────────────────────

module _ (st : Store) (l k : ℕ) (t : List ℕ) where
  -- 13, 1 or 35
  pub define-refused : (r : Refusal) → first (mark_tests (store_view st) l k) ≡ some r
      → changed st (refusal_number r) (defines l k t) ≡ store_call st (defines l k t)
  unfolding tests
  define-refused r e = call-refused st (defines l k t) r (first-early (mark_tests (store_view st) l k) (fault_of (read t) ∷ []) r e)

  -- none of them, so that the text decides
  module _ (free : first (mark_tests (store_view st) l k) ≡ none) where
    decided : first (tests (store_view st) (defines l k t)) ≡ first (fault_of (read t) ∷ [])
    unfolding tests
    decided = first-after (mark_tests (store_view st) l k) (fault_of (read t) ∷ []) free

    pub define-faulty : (f : Fault) → Err f ≡ linked (read t) → changed st (fault_number f) (defines l k t) ≡ store_call st (defines l k t)
    define-faulty f e = go (read t) refl e
      where
        go : (v : Reading) → read t ≡ v → Err f ≡ linked v → changed st (fault_number f) (defines l k t) ≡ store_call st (defines l k t)
        go (refused r) q h =
            let s : r ≡ f = cc in
            call-refused st (defines l k t) (BadText f) (decided ∙ ap (λ v. first (fault_of v ∷ [])) (q ∙ ap refused s))
        go (accepted w) q h = cc

    pub define-accepted : (y : Store) (x : Table) → Ok x ≡ linked (read t) → y ≡ with_entry st (letter_index l) (record { table = x; permission = k })
        → changed y 0 (defines l k t) ≡ store_call st (defines l k t)
    define-accepted y x e h = go (read t) refl e
      where
        accept : (w : Expr) → read t ≡ accepted w → x ≡ layout w → changed y 0 (defines l k t) ≡ store_call st (defines l k t)
        accept w q s = unfold store_accepts expr_of in rw (h, s, ← call-accepted st (defines l k t) (decided ∙ ap (λ v. first (fault_of v ∷ [])) q), q)

        go : (v : Reading) → read t ≡ v → Ok x ≡ linked v → changed y 0 (defines l k t) ≡ store_call st (defines l k t)
        go (refused r) q j = cc
        go (accepted w) q j = accept w q (let s : x ≡ layout w = cc in s)

-- what `put_text` leaves, once the tests that come before the text let the call through
module _ (c : List ℤ) (u ms : List ℕ) (v : List ℤ) (l m : ℕ) (t : List ℕ) (free : first (mark_tests (store_view (store_of c u ms v)) l m) ≡ none)
    (c' : List ℤ) (u' ms' : List ℕ) where
  abbrev st : Store
  st = store_of c u ms v

  abbrev left : Store
  left = store_of c' u' ms' v

  pub text-faulty : (f : Fault) → PutsText c u ms (letter_index l) (linked (read t)) m (Err f) c' u' ms'
      → changed left (fault_number f) (defines l m t) ≡ store_call st (defines l m t)
  text-faulty f p = go (linked (read t)) refl p
    where
      go : (r : Result Table Fault) → linked (read t) ≡ r → PutsText c u ms (letter_index l) r m (Err f) c' u' ms'
          → changed left (fault_number f) (defines l m t) ≡ store_call st (defines l m t)
      go (Ok x) e q = let z = q.0 in cc
      go (Err r) e q = let z = q.0 in rw (q.1, q.2, q.3) (define-faulty st l m t free f cc)

  pub text-accepted : PutsText c u ms (letter_index l) (linked (read t)) m (Ok tt) c' u' ms'
      → changed left 0 (defines l m t) ≡ store_call st (defines l m t)
  text-accepted p = go (linked (read t)) refl p
    where
      go : (r : Result Table Fault) → linked (read t) ≡ r → PutsText c u ms (letter_index l) r m (Ok tt) c' u' ms'
          → changed left 0 (defines l m t) ≡ store_call st (defines l m t)
      go (Ok x) e q = define-accepted st l m t free left x (sym e) (q.1 v)
      go (Err r) e q = let z = q.0 in cc

-- ── withdraw ────────────────────────────────────────────────────────────────────────────────────

module _ (st : Store) (l : ℕ) where
  pub withdraw-refused : (r : Refusal) → first (text_tests (store_view st) l) ≡ some r → changed st (refusal_number r) (withdraws l) ≡ store_call st (withdraws l)
  unfolding tests
  withdraw-refused r e = call-refused st (withdraws l) r e

  pub withdraw-accepted : (y : Store) → first (text_tests (store_view st) l) ≡ none
      → y ≡ with_entry st (letter_index l) (record { table = cleared; permission = open_permission }) → changed y 0 (withdraws l) ≡ store_call st (withdraws l)
  unfolding tests store_accepts
  withdraw-accepted y e h = ap (λ s. changed s 0 (withdraws l)) h ∙ call-accepted st (withdraws l) e

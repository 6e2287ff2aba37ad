-- The answer of a call: a text that the linker refuses, a paper that is too short, and the copy on the paper.
use mathlib.Core.Path.{◌≡◌, refl, sym, ap, ◌∙◌}
use mathlib.Core.List.{List, ◌++◌}
use Prim.Native.Nat.{ℕ, ◌+◌, ◌≤◌, ◌<◌}
use native.Mathlib.Omega.{arith}
use lib.ListN.{length, replicate, take, drop}
use Rattle.std.proofs.lemmas.List.Edits.{paste_all}
use lib.Seq.{paste, take-length, take-paste, length-paste}
use Rattle.language.specs.Limits.{max_text}
use Rattle.language.specs.Syntax.{Expr}
use Rattle.language.specs.Reading.{Reading, refused, accepted, read}
use Rattle.language.specs.declared.Table.{Table}
use Rattle.language.proofs.Grammar.{reading-sound}
use Rattle.std.specs.Prelude.{Ok}
use Rattle.linker.specs.Linked.{linked, judged}
use Rattle.linker.proofs.LinkedOver.{judged-of}
use Rattle.numerals.specs.Numerals.{Written, wrote, written, delivers}
use Rattle.numerals.proofs.Numerals.{written-room, delivered-whole, delivered-short}
use Rattle.faircopy.specs.FairCopy.{fair_copy, short_paper, copied}
use Rattle.faircopy.specs.Steps.{Copies}
use Rattle.faircopy.proofs.Claims.{copy-shorter}

-- the buffer of a copy before it is made
abbrev blank : List ℕ
blank = replicate max_text 0

-- the text s is accepted
module _ (s : List ℕ) (accept : Ok tt ≡ judged (read s)) where
  pub judged-text : Copies s blank
  judged-text = go (read s) refl accept
    where
      go : (r : Reading) → read s ≡ r → Ok tt ≡ judged r → Copies s blank
      go (refused f) h k = absurd cc
      go (accepted w) h k = record { expression = w; reads = h; room = let l = (reading-sound s w h).limits.text in omega arith }

-- and n bytes, which are its copy, were written at the start of the buffer
module _ (s : List ℕ) (accept : Ok tt ≡ judged (read s)) (n : ℕ) (o' : List ℕ)
    (f : (w : Expr) → read s ≡ accepted w → wrote n o' ≡ written blank 0 (fair_copy w)) where
  abbrev c : Copies s blank
  c = judged-text s accept

  abbrev fc : List ℕ
  fc = fair_copy c.expression

  shorter : length fc ≤ length blank
  shorter = let k = copy-shorter s c.expression c.reads in omega (arith, c.room)

  all : wrote n o' ≡ wrote (0 + length fc) (paste blank 0 fc (length fc))
  all = f c.expression c.reads ∙ sym (written-room blank 0 fc (omega (arith, shorter)))

  pub judged-counted : n ≡ length fc
  judged-counted = let k : n ≡ 0 + length fc = ap (λ (x : Written). x.next) all in omega arith

  pub judged-little : n ≤ length o'
  judged-little =
      let k = ap (λ (x : Written). length x.buffer) all in
      omega (arith, judged-counted, shorter, length-paste blank 0 fc (length fc) (omega (arith, shorter)) (omega arith))

  -- they are the copy
  bytes : take n o' ≡ fc
  bytes =
      (λ i. take (all i).next (all i).buffer)
      ∙ take-paste blank 0 fc (length fc) (omega (arith, shorter)) (omega arith)
      ∙ take-length fc

  pub judged-short-paper : (p : List ℕ) → length p < n → delivers short_paper 0 p ≡ copied p (read s)
  judged-short-paper p h =
      delivered-short short_paper p fc (omega (arith, judged-counted)) ∙ sym (ap (copied p) c.reads)

  pub judged-on-paper : (p part : List ℕ) → n ≤ length p → part ≡ take n o' → delivers 0 n (part ++ drop n p) ≡ copied p (read s)
  judged-on-paper p part h e =
      let g : length fc ≤ length p = omega (arith, judged-counted) in
      let z : 0 + length fc ≡ length fc = omega arith in
      let b : part ++ drop n p ≡ paste p 0 fc (length fc) =
      (λ i. (e ∙ bytes) i ++ drop (judged-counted i) p) ∙ ap (λ (k : ℕ). fc ++ drop k p) (sym z) ∙ sym (paste_all p 0 fc (length fc) refl) in
      (λ i. delivers 0 (judged-counted i) (b i)) ∙ delivered-whole short_paper p fc g ∙ sym (ap (copied p) c.reads)

-- the same of a text that links to a table
module _ (s : List ℕ) (t : Table) (link : Ok t ≡ linked (read s)) where
  pub accepted-text : Copies s blank
  accepted-text = judged-text s (judged-of (read s) t link)

module _ (s : List ℕ) (t : Table) (link : Ok t ≡ linked (read s)) (n : ℕ) (o' : List ℕ)
    (f : (w : Expr) → read s ≡ accepted w → wrote n o' ≡ written blank 0 (fair_copy w)) where
  pub counted : n ≡ length (fair_copy (accepted-text s t link).expression)
  unfolding accepted-text
  counted = judged-counted s (judged-of (read s) t link) n o' f

  pub little : n ≤ length o'
  little = judged-little s (judged-of (read s) t link) n o' f

  pub short-paper : (p : List ℕ) → length p < n → delivers short_paper 0 p ≡ copied p (read s)
  short-paper = judged-short-paper s (judged-of (read s) t link) n o' f

  pub on-paper : (p part : List ℕ) → n ≤ length p → part ≡ take n o' → delivers 0 n (part ++ drop n p) ≡ copied p (read s)
  on-paper = judged-on-paper s (judged-of (read s) t link) n o' f

-- `paper::output::write` meets its contract.
use mathlib.Core.Path.{◌≡◌, sym, ap, ◌∙◌}
use mathlib.Core.List.{List}
use Prim.Native.Nat.{ℕ, ◌+◌, ◌-◌, ◌≤◌}
use native.Mathlib.Omega.{arith}
use lib.IntN.{ℤ, pos}
use lib.ListN.{length, get_or}
use lib.Seq.{paste}
use mir.Syntax.{w32}
use mir.Val.{to_z, of_z}
use borrow.Author.Tests.{le-ltb, ne_eqb}
use borrow.Author.Rules.{rules}
use Rattle.language.specs.Limits.{write_width}
use Rattle.language.specs.Effects.{top, column, perform}
use Rattle.numerals.specs.Numerals.{Written, wrote, written}
use Rattle.language.proofs.Money.{column-width}
use Rattle.numerals.proofs.Numerals.{written-room}
use Rattle.operands.specs.Held.{state_of, writing}
use Rattle.paper.proofs.Effects.{emitted-fits, emitted-out}
use Rattle.paper.proofs.output.write.Goals as goal

-- A column that fits is pasted.
column-written : (o : List ℕ) (at : ℕ) (v : ℤ) {r : ℕ} {o' : List ℕ} → at + write_width ≤ length o → wrote r o' ≡ written o at (column v)
    → (r ≡ at + write_width) × (o' ≡ paste o at (column v) write_width)
column-written o at v h e =
    let n = column-width v in
    let s = e ∙ sym (written-room o at (column v) (omega arith)) in
    (ap (λ (x : Written). x.next) s ∙ ap (λ (k : ℕ). at + k) n, ap (λ (x : Written). x.buffer) s ∙ ap (paste o at (column v)) n)

pub returns-then-output-w-lt-WRITE_WIDTH : goal.returns-then-output-w-lt-WRITE_WIDTH
unfolding perform
returns-then-output-w-lt-WRITE_WIDTH c = λ h.
    let s = state_of (writing c.args.m c.args.list.now c.args.output.now h) in
    rw (
      c.stop-then-output-w-lt-WRITE_WIDTH.ensures,
      ne_eqb _ _ c.if-m-eq0.false,
      le-ltb _ _ c.if-h-lt1.false,
      emitted-out s (column (top s)) write_width (column-width (top s)) (omega arith),
    )

pub returns : goal.returns
unfolding perform
returns c = λ h.
    let a = c.args in
    let w = a.m.written in
    let o = a.output.now in
    let s = state_of (writing a.m a.list.now o h) in
    let v = get_or a.list.now (a.m.height - 1) (pos 0) in
    let b : to_z w32 (of_z w32 v) ≡ v = search rules in
    let fits : w + write_width ≤ length o = omega arith in
    let e = column-written o w v fits (rw b at c.put_column-written.ensures) in
    rw (
      c.go.ensures,
      e.0,
      e.1,
      ne_eqb _ _ c.if-m-eq0.false,
      le-ltb _ _ c.if-h-lt1.false,
      emitted-fits s (column v) write_width (column-width v) fits,
    )

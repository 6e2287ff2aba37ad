-- `console::line_end` meets its contract.
use mathlib.Core.Path.{◌≡◌, ◌∙◌}
use native.Mathlib.Omega.{arith}
use lib.Dec.{eqb}
use borrow.Author.Rules.{rules}
use Rattle.std.proofs.Common.{tests}
use Rattle.std.specs.List.{position}
use Rattle.std.proofs.lemmas.Iterator.{YieldsList-from_slice}
use Rattle.std.proofs.lemmas.Iterator.Search.{position_from_yields_List}
use Rattle.language.specs.Bytes.{newline_byte}
use Rattle.console.proofs.Day.{line-end-le}
use Rattle.console.proofs.Places.{line-end-found}
use Rattle.console.proofs.line_end.Goals as goal

pub returns : goal.returns
returns c =
    let s = c.args.part.now in
    let e : c.position.result ≡ position (λ b. eqb b newline_byte) s =
    position_from_yields_List (λ b. eqb b newline_byte) _ _ c.position.result c.position.ensures.ran (YieldsList-from_slice s cc) (λ x b q k. search (rules, tests))
    in
    let place = c.unwrap_or.ensures ∙ line-end-found s _ e in
    record { place = place; within = omega (arith, place, line-end-le s) }

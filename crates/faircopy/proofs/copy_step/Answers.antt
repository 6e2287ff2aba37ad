-- `copy_step` meets its contract: each byte's function does what the definition says of it.
use mathlib.Core.Path.{◌≡◌, refl, ap, ◌∙◌}
use mathlib.Core.List.{List, [], ◌∷◌}
use Prim.Native.Nat.{ℕ}
use lib.ListN.{drop}
use native.Mathlib.Omega.{arith}
use Rattle.language.specs.Bytes.{quote_byte, dollar_byte, tick_byte, comma_byte, point_byte}
use Rattle.faircopy.specs.Steps.{takes, reach}
use Rattle.faircopy.proofs.Written.{nothing_written}
use Rattle.faircopy.proofs.StepsParts.{reach-within, step_is, step-blank, step-quote, step-comma, step-point, step-dollar, step-tick, step_other, moves-as, moves-after, fits-as}
use Rattle.faircopy.proofs.copy_step.Goals as goal

pub returns-then-byte-le32 : goal.returns-then-byte-le32
returns-then-byte-le32 c =
    let e = step-blank _ _ c.if-byte-le32.true in
    moves-as e (record { rest = refl; buffer = nothing_written _ _ (fits-as c.args.out.now c.args.at e c.requires) })

pub split_at-requires : goal.split_at-requires
split_at-requires c = omega (arith, reach-within quote_byte c.args.text.now)

pub copy_counter-requires : goal.copy_counter-requires
copy_counter-requires c = fits-as c.args.out.now c.args.at (step_is _ dollar_byte _ c.in-36.is (step-dollar _)) c.requires

pub copy_quoted-requires : goal.copy_quoted-requires
copy_quoted-requires c = fits-as c.args.out.now c.args.at (step_is _ tick_byte _ c.in-39.is (step-tick _)) c.requires

pub returns-in-34 : goal.returns-in-34
returns-in-34 c =
    let l : List ℕ = c.args.text.now in
    let e = step_is c.args.byte quote_byte l c.in-34.is (step-quote l) in
    let r : c.split_at.result.1.now ≡ drop (reach quote_byte l) l = c.split_at.ensures.back ∙ ap (λ (n : ℕ). drop n l) c.reach.ensures in
    moves-as e
    (moves-after {st = takes (reach quote_byte l) []} 1 (c.args.byte ∷ l)
    (record { rest = r; buffer = nothing_written _ _ (fits-as c.args.out.now c.args.at e c.requires) }))

pub returns-in-44 : goal.returns-in-44
returns-in-44 c = moves-as (step_is _ comma_byte _ c.in-44.is (step-comma _)) (record { rest = refl; buffer = c.write_byte.ensures })

pub returns-in-46 : goal.returns-in-46
returns-in-46 c = moves-as (step_is _ point_byte _ c.in-46.is (step-point _)) (record { rest = refl; buffer = c.write_byte-in-46.ensures })

pub returns-in-36 : goal.returns-in-36
returns-in-36 c = moves-as (step_is _ dollar_byte _ c.in-36.is (step-dollar _)) (moves-after 1 _ c.copy_counter.ensures)

pub returns-in-39 : goal.returns-in-39
returns-in-39 c = moves-as (step_is _ tick_byte _ c.in-39.is (step-tick _)) (moves-after 1 _ c.copy_quoted.ensures)

pub returns-in_default : goal.returns-in_default
returns-in_default c =
    let n = c.in_default.in_default-own.rest in
    moves-as (step_other _ _ c.if-byte-le32.false n.0.0.0.0.1 n.0.0.0.1 n.0.0.1 n.0.1 n.1) (record { rest = refl; buffer = c.write_byte-in_default.ensures })

-- `scan` meets its contract: what a token means to the parser is what it does to the draft.
use mathlib.Core.Path.{ap, ◌∙◌}
use Rattle.std.proofs.Common.{rules, ◌≡◌}
use Rattle.emitter.specs.Drafts.{draft_at}
use Rattle.language.specs.Reading.{refused}
use Rattle.assembler.specs.Scanning.{parsed_from}
use Rattle.assembler.proofs.Scanning.{starts_out, goes_on, is_refused, is_faulty}
use Rattle.assembler.proofs.scan.scan.Goals as goal

pub loop-pass-init : goal.loop-pass-init
loop-pass-init c =
    starts_out c.args.text.now c.args.from _ (ap (λ d. draft_at d c.fresh-pass.result) c.requires.draft-blank ∙ c.fresh-pass.ensures)

pub returns-in_err-lexed : goal.returns-in_err-lexed
returns-in_err-lexed c =
    let r : parsed_from c.args.text.now c.args.from ≡ refused c.in_err-lexed.field-0.0.fault =
    is_faulty _ _ _ _ c.loop-pass.invariant c.loop-pass-test.true c.in_err-lexed.ensures.means in
    search rules

pub returns-in_err-take : goal.returns-in_err-take
returns-in_err-take c =
    let t = c.in_ok-lexed in
    let r : parsed_from c.args.text.now c.args.from ≡ refused c.in_err-take.field-0.0 =
    is_refused c.args.text.now _ _ t.lexed.token _ _ _ c.loop-pass.invariant c.loop-pass-test.true t.ensures.means c.in_err-take.ensures.steps.0 in
    search rules

pub loop-pass-preserved : goal.loop-pass-preserved
loop-pass-preserved c =
    let t = c.in_ok-lexed in
    goes_on c.args.text.now _ _ t.lexed.token _ _ _ c.loop-pass.invariant c.loop-pass-test.true t.ensures.means c.in_ok-take.ensures.steps

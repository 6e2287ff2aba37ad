-- `semicolon` meets its contract: the cell is open in the draft as in the pass.
use Rattle.emitter.specs.Drafts.{fit, pass_fit}
use Rattle.emitter.proofs.pass.Draft.semicolon.Goals as goal

pub returns : goal.returns
unfolding fit pass_fit
returns c = rw (c.follow.ensures, ← c.pass-pass.ensures) c.semicolon-marked.ensures.steps

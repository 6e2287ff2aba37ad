-- `colon` meets its contract: the cell is open in the draft as in the pass.
use Rattle.emitter.specs.Drafts.{fit, pass_fit, coloned, pass_coloned}
use Rattle.emitter.proofs.pass.Draft.colon.Goals as goal

pub returns : goal.returns
unfolding fit pass_fit coloned pass_coloned
returns c = rw (c.follow.ensures, ← c.pass-pass.ensures) c.colon-marked.ensures.steps

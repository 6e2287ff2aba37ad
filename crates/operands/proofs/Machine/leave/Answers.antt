-- `operands::Machine::leave` meets its contract. The array of frames says what its definition as a list says.
use native.Mathlib.Omega.{arith}
use Rattle.operands.proofs.Held.{leave_none, leave-some}
use Rattle.operands.proofs.Machine.leave.Goals as goal

pub returns-then-self-eq0 : goal.returns-then-self-eq0
returns-then-self-eq0 c = λ h. leave_none c.args.truth c.args.frames.now c.args.self.depth _ _ c.if-self-eq0.true

pub returns : goal.returns
returns c = λ h. rw c.resumes.ensures (leave-some c.args.truth c.args.frames.now c.args.self.depth _ _ (omega (arith, c.if-self-eq0.false)))

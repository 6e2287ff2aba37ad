-- `scan` meets its contract: the parser, from the outermost `(` on, is where the draft is, and no text is refused yet.
use Rattle.assembler.proofs.ScanningSimulation.{Stands}
use Rattle.assembler.specs.Scanning.{parsed_from}
use Rattle.emitter.specs.Drafts.{draft_at}
use Rattle.language.specs.Tokens.{tokens, idle}
use lib.ListN.{length, drop}
use Prim.Native.Nat.{◌-◌}
use Rattle.assembler.proofs.scan.scan.Given as goal

abbrev pub invariant-loop-pass : goal.invariant-loop-pass
invariant-loop-pass l = Stands (parsed_from l.text l.from) (tokens (drop l.at l.text) idle) (draft_at l.draft l.pass)

abbrev pub decreases-loop-pass : goal.decreases-loop-pass
decreases-loop-pass l = length l.text - l.at

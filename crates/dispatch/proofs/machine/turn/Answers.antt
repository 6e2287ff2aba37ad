-- `dispatch::machine::turn` meets its contract. Each arm's instruction is the turn at its mark's code; what is no code decodes to damage.
use mathlib.Core.Path.{refl, sym, ap, ◌∙◌}
use mathlib.Core.Path.{◌≡◌}
use mathlib.Core.Bool.{true, false}
use mathlib.Core.Logic.{◌⊎◌, inl, inr}
use lib.IntN.{negsuc}
use lib.Signed.{lt_z}
use Prim.Native.Nat.{suc, ◌-◌}
use native.Mathlib.Omega.{arith}
use borrow.Author.Rules.{rules}
use Rattle.language.specs.Syntax.{absolute, negate, add, subtract, multiply, divide, discard, copy, input, write, newline, operator_byte, fetch, save, access_byte}
use Rattle.language.specs.Syntax.{negative, null, equal, condition_byte, constant_code, print_code, counter_code}
use Rattle.language.specs.Machine.{is_call, kind}
use Rattle.operands.specs.Operands.{table_in}
use Rattle.operands.specs.Held.{Held, held}
use Rattle.operands.proofs.OperandsDecoding.{byte-late, call-kind}
use Rattle.dispatch.proofs.Marks.{inside, Held32, no_byte, mark-due, operator-due, rest-decoded, letter, index-fits, called_is}
use Rattle.dispatch.proofs.machine.turn.Goals as goal
use Rattle.dispatch.proofs.machine.turn.Goals.{in_default-via-then-x-ltminus122, in_default-via-else-x-ltminus122+else-x-ltminus96}

pub end_of-requires : goal.end_of-requires
end_of-requires c = record { placed = c.requires.placed; depth = c.requires.depth; byte = byte-late (table_in c.args.cells.now c.args.code) c.args.m.at c.if-code-m.true }

pub transfer-requires : goal.transfer-requires
transfer-requires c = record { inside = inside c.requires c.if-code-m.false; byte = no_byte c.args.cells.now c.requires c.if-code-m.false _ c.cell-x.ensures (search rules) c.if-x-gt1.true }

pub overflow_cast-x : goal.overflow_cast-x
overflow_cast-x c = index-fits c.cell-x.result (search rules) c.in-minus122-to-minus97.if-x-ltminus122-own.false c.in-minus122-to-minus97.if-x-ltminus96-own.true

pub call-requires : goal.call-requires
call-requires c =
    let l = letter c.cell-x.result (search rules) c.in-minus122-to-minus97.if-x-ltminus122-own.false c.in-minus122-to-minus97.if-x-ltminus96-own.true in
    record {
      inside = inside c.requires c.if-code-m.false;
      depth = c.requires.depth;
      caller = c.requires.letter;
      letter = omega (arith, called_is c.cell-x.result (search rules) c.in-minus122-to-minus97.if-x-ltminus122-own.false c.in-minus122-to-minus97.if-x-ltminus96-own.true, l.low, l.high);
      size = c.requires.size;
    }

pub returns-then-code-m : goal.returns-then-code-m
returns-then-code-m c =
    let h : Held =
    held c.args.m c.args.cells.now c.args.used.now c.args.permissions.now c.args.role c.args.inputs.now c.args.frames.now c.args.counts.now c.args.vars.now
    c.args.list.now c.args.output.now in
    record { turns = c.end_of.ensures h; size = c.requires.size }

pub returns-then-x-gt1 : goal.returns-then-x-gt1
returns-then-x-gt1 c =
    let h : Held =
    held c.args.m c.args.cells.now c.args.used.now c.args.permissions.now c.args.role c.args.inputs.now c.args.frames.now c.args.counts.now c.args.vars.now
    c.args.list.now c.args.output.now in
    record { turns = c.transfer.ensures h; size = c.requires.size }

pub returns-in-minus65 : goal.returns-in-minus65
unfolding kind
returns-in-minus65 c =
    let h : Held =
    held c.args.m c.args.cells.now c.args.used.now c.args.permissions.now c.args.role c.args.inputs.now c.args.frames.now c.args.counts.now c.args.vars.now
    c.args.list.now c.args.output.now in
    record { turns = c.unary.ensures h ∙ operator-due h c.requires c.if-code-m.false _ c.cell-x.ensures (search rules) (operator_byte absolute - 1) _ absolute c.in-minus65.in-minus65-own.keys1 refl refl; size = c.requires.size }

pub returns-in-minus77 : goal.returns-in-minus77
unfolding kind
returns-in-minus77 c =
    let h : Held =
    held c.args.m c.args.cells.now c.args.used.now c.args.permissions.now c.args.role c.args.inputs.now c.args.frames.now c.args.counts.now c.args.vars.now
    c.args.list.now c.args.output.now in
    record { turns = c.unary-in-minus77.ensures h ∙ operator-due h c.requires c.if-code-m.false _ c.cell-x.ensures (search rules) (operator_byte negate - 1) _ negate c.in-minus77.in-minus77-own.keys2 refl refl; size = c.requires.size }

pub returns-in-minus43 : goal.returns-in-minus43
unfolding kind
returns-in-minus43 c =
    let h : Held =
    held c.args.m c.args.cells.now c.args.used.now c.args.permissions.now c.args.role c.args.inputs.now c.args.frames.now c.args.counts.now c.args.vars.now
    c.args.list.now c.args.output.now in
    record { turns = c.binary.ensures h ∙ operator-due h c.requires c.if-code-m.false _ c.cell-x.ensures (search rules) (operator_byte add - 1) _ add c.in-minus43.in-minus43-own.keys3 refl refl; size = c.requires.size }

pub returns-in-minus45 : goal.returns-in-minus45
unfolding kind
returns-in-minus45 c =
    let h : Held =
    held c.args.m c.args.cells.now c.args.used.now c.args.permissions.now c.args.role c.args.inputs.now c.args.frames.now c.args.counts.now c.args.vars.now
    c.args.list.now c.args.output.now in
    record { turns = c.binary-in-minus45.ensures h ∙ operator-due h c.requires c.if-code-m.false _ c.cell-x.ensures (search rules) (operator_byte subtract - 1) _ subtract c.in-minus45.in-minus45-own.keys4 refl refl; size = c.requires.size }

pub returns-in-minus42 : goal.returns-in-minus42
unfolding kind
returns-in-minus42 c =
    let h : Held =
    held c.args.m c.args.cells.now c.args.used.now c.args.permissions.now c.args.role c.args.inputs.now c.args.frames.now c.args.counts.now c.args.vars.now
    c.args.list.now c.args.output.now in
    record { turns = c.binary-in-minus42.ensures h ∙ operator-due h c.requires c.if-code-m.false _ c.cell-x.ensures (search rules) (operator_byte multiply - 1) _ multiply c.in-minus42.in-minus42-own.keys5 refl refl; size = c.requires.size }

pub returns-in-minus47 : goal.returns-in-minus47
unfolding kind
returns-in-minus47 c =
    let h : Held =
    held c.args.m c.args.cells.now c.args.used.now c.args.permissions.now c.args.role c.args.inputs.now c.args.frames.now c.args.counts.now c.args.vars.now
    c.args.list.now c.args.output.now in
    record { turns = c.binary-in-minus47.ensures h ∙ operator-due h c.requires c.if-code-m.false _ c.cell-x.ensures (search rules) (operator_byte divide - 1) _ divide c.in-minus47.in-minus47-own.keys6 refl refl; size = c.requires.size }

pub returns-in-minus76 : goal.returns-in-minus76
unfolding kind
returns-in-minus76 c =
    let h : Held =
    held c.args.m c.args.cells.now c.args.used.now c.args.permissions.now c.args.role c.args.inputs.now c.args.frames.now c.args.counts.now c.args.vars.now
    c.args.list.now c.args.output.now in
    record { turns = c.discard.ensures h ∙ operator-due h c.requires c.if-code-m.false _ c.cell-x.ensures (search rules) (operator_byte discard - 1) _ discard c.in-minus76.in-minus76-own.keys7 refl refl; size = c.requires.size }

pub returns-in-minus80 : goal.returns-in-minus80
unfolding kind
returns-in-minus80 c =
    let h : Held =
    held c.args.m c.args.cells.now c.args.used.now c.args.permissions.now c.args.role c.args.inputs.now c.args.frames.now c.args.counts.now c.args.vars.now
    c.args.list.now c.args.output.now in
    record { turns = c.copy.ensures h ∙ operator-due h c.requires c.if-code-m.false _ c.cell-x.ensures (search rules) (operator_byte copy - 1) _ copy c.in-minus80.in-minus80-own.keys8 refl refl; size = c.requires.size }

pub returns-in-minus73 : goal.returns-in-minus73
unfolding kind
returns-in-minus73 c =
    let h : Held =
    held c.args.m c.args.cells.now c.args.used.now c.args.permissions.now c.args.role c.args.inputs.now c.args.frames.now c.args.counts.now c.args.vars.now
    c.args.list.now c.args.output.now in
    record { turns = c.input.ensures h ∙ operator-due h c.requires c.if-code-m.false _ c.cell-x.ensures (search rules) (operator_byte input - 1) _ input c.in-minus73.in-minus73-own.keys9 refl refl; size = c.requires.size }

pub returns-in-minus70 : goal.returns-in-minus70
unfolding kind
returns-in-minus70 c =
    let h : Held =
    held c.args.m c.args.cells.now c.args.used.now c.args.permissions.now c.args.role c.args.inputs.now c.args.frames.now c.args.counts.now c.args.vars.now
    c.args.list.now c.args.output.now in
    record { turns = c.variable.ensures h ∙ mark-due h c.requires c.if-code-m.false _ c.cell-x.ensures (search rules) (access_byte fetch - 1) _ _ c.in-minus70.in-minus70-own.keys10 refl refl; size = c.requires.size }

pub returns-in-minus83 : goal.returns-in-minus83
unfolding kind
returns-in-minus83 c =
    let h : Held =
    held c.args.m c.args.cells.now c.args.used.now c.args.permissions.now c.args.role c.args.inputs.now c.args.frames.now c.args.counts.now c.args.vars.now
    c.args.list.now c.args.output.now in
    record { turns = c.variable-in-minus83.ensures h ∙ mark-due h c.requires c.if-code-m.false _ c.cell-x.ensures (search rules) (access_byte save - 1) _ _ c.in-minus83.in-minus83-own.keys11 refl refl; size = c.requires.size }

pub returns-in-minus175 : goal.returns-in-minus175
unfolding kind
returns-in-minus175 c =
    let h : Held =
    held c.args.m c.args.cells.now c.args.used.now c.args.permissions.now c.args.role c.args.inputs.now c.args.frames.now c.args.counts.now c.args.vars.now
    c.args.list.now c.args.output.now in
    record { turns = c.constant.ensures h ∙ mark-due h c.requires c.if-code-m.false _ c.cell-x.ensures (search rules) (constant_code - 1) _ _ c.in-minus175.in-minus175-own.keys12 refl refl; size = c.requires.size }

pub returns-in-minus79 : goal.returns-in-minus79
unfolding kind
returns-in-minus79 c =
    let h : Held =
    held c.args.m c.args.cells.now c.args.used.now c.args.permissions.now c.args.role c.args.inputs.now c.args.frames.now c.args.counts.now c.args.vars.now
    c.args.list.now c.args.output.now in
    record { turns = c.write.ensures h ∙ operator-due h c.requires c.if-code-m.false _ c.cell-x.ensures (search rules) (operator_byte write - 1) _ write c.in-minus79.in-minus79-own.keys13 refl refl; size = c.requires.size }

pub returns-in-minus88 : goal.returns-in-minus88
unfolding kind
returns-in-minus88 c =
    let h : Held =
    held c.args.m c.args.cells.now c.args.used.now c.args.permissions.now c.args.role c.args.inputs.now c.args.frames.now c.args.counts.now c.args.vars.now
    c.args.list.now c.args.output.now in
    record { turns = c.newline.ensures h ∙ operator-due h c.requires c.if-code-m.false _ c.cell-x.ensures (search rules) (operator_byte newline - 1) _ newline c.in-minus88.in-minus88-own.keys14 refl refl; size = c.requires.size }

pub returns-in-minus167 : goal.returns-in-minus167
unfolding kind
returns-in-minus167 c =
    let h : Held =
    held c.args.m c.args.cells.now c.args.used.now c.args.permissions.now c.args.role c.args.inputs.now c.args.frames.now c.args.counts.now c.args.vars.now
    c.args.list.now c.args.output.now in
    record { turns = c.print.ensures h ∙ mark-due h c.requires c.if-code-m.false _ c.cell-x.ensures (search rules) (print_code - 1) _ _ c.in-minus167.in-minus167-own.keys15 refl refl; size = c.requires.size }

pub returns-in-minus78 : goal.returns-in-minus78
unfolding kind
returns-in-minus78 c =
    let h : Held =
    held c.args.m c.args.cells.now c.args.used.now c.args.permissions.now c.args.role c.args.inputs.now c.args.frames.now c.args.counts.now c.args.vars.now
    c.args.list.now c.args.output.now in
    record { turns = c.test.ensures h ∙ mark-due h c.requires c.if-code-m.false _ c.cell-x.ensures (search rules) (condition_byte negative - 1) _ _ c.in-minus78.in-minus78-own.keys16 refl refl; size = c.requires.size }

pub returns-in-minus48 : goal.returns-in-minus48
unfolding kind
returns-in-minus48 c =
    let h : Held =
    held c.args.m c.args.cells.now c.args.used.now c.args.permissions.now c.args.role c.args.inputs.now c.args.frames.now c.args.counts.now c.args.vars.now
    c.args.list.now c.args.output.now in
    record { turns = c.test-in-minus48.ensures h ∙ mark-due h c.requires c.if-code-m.false _ c.cell-x.ensures (search rules) (condition_byte null - 1) _ _ c.in-minus48.in-minus48-own.keys17 refl refl; size = c.requires.size }

pub returns-in-minus74 : goal.returns-in-minus74
unfolding kind
returns-in-minus74 c =
    let h : Held =
    held c.args.m c.args.cells.now c.args.used.now c.args.permissions.now c.args.role c.args.inputs.now c.args.frames.now c.args.counts.now c.args.vars.now
    c.args.list.now c.args.output.now in
    record { turns = c.test-in-minus74.ensures h ∙ mark-due h c.requires c.if-code-m.false _ c.cell-x.ensures (search rules) (condition_byte equal - 1) _ _ c.in-minus74.in-minus74-own.keys18 refl refl; size = c.requires.size }

pub returns-in-minus36 : goal.returns-in-minus36
unfolding kind
returns-in-minus36 c =
    let h : Held =
    held c.args.m c.args.cells.now c.args.used.now c.args.permissions.now c.args.role c.args.inputs.now c.args.frames.now c.args.counts.now c.args.vars.now
    c.args.list.now c.args.output.now in
    record { turns = c.counter.ensures h ∙ mark-due h c.requires c.if-code-m.false _ c.cell-x.ensures (search rules) (counter_code - 1) _ _ c.in-minus36.in-minus36-own.keys19 refl refl; size = c.requires.size }

pub returns-in-minus122-to-minus97 : goal.returns-in-minus122-to-minus97
returns-in-minus122-to-minus97 c =
    let h : Held =
    held c.args.m c.args.cells.now c.args.used.now c.args.permissions.now c.args.role c.args.inputs.now c.args.frames.now c.args.counts.now c.args.vars.now
    c.args.list.now c.args.output.now in
    let back : Held32 c.cell-x.result = search rules in
    let l = letter c.cell-x.result (search rules) c.in-minus122-to-minus97.if-x-ltminus122-own.false c.in-minus122-to-minus97.if-x-ltminus96-own.true in
    record {
      turns =
          c.call.ensures.turns h
          ∙ mark-due h c.requires c.if-code-m.false _ c.cell-x.ensures back l.n _ _ refl (back ∙ l.is) (call-kind (suc l.n) l.low l.high ∙ ap is_call (sym (called_is c.cell-x.result (search rules) c.in-minus122-to-minus97.if-x-ltminus122-own.false c.in-minus122-to-minus97.if-x-ltminus96-own.true)));
      size = c.call.ensures.size;
    }

pub returns-in_default : goal.returns-in_default
returns-in_default c =
    let back : Held32 c.cell-x.result = search rules in
    let o : (lt_z c.cell-x.result (negsuc 121) ≡ true) ⊎ (lt_z c.cell-x.result (negsuc 95) ≡ false) =
    elim c.in_default.branch [
      | in_default-via-then-x-ltminus122 w ↦ inl (rw back at w.if-x-ltminus122-1.true)
      | in_default-via-else-x-ltminus122+else-x-ltminus96 w ↦ inr (rw back at w.if-x-ltminus96-1.false)
    ] in
    record {
      turns =
          rw (
            rest-decoded (table_in c.args.cells.now c.args.code) c.args.m.at _ c.requires.first c.if-code-m.false (sym c.cell-x.ensures) (rw back at c.if-x-gt1.false) o c.in_default-1.rest,
            c.stop.ensures,
          );
      size = c.requires.size;
    }

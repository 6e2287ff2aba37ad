-- The store, and what a call does to any store: the right-hand sides of the engine's contracts.
use Rattle.std.specs.Prelude.{ℕ, ◌*◌, Bool, ◌&&◌, List, ℤ, pos, set, replicate}
use Rattle.std.proofs.Math.Option.{Option, none}
use Rattle.std.proofs.Math.Seq.{paste}
use Rattle.language.specs.declared.Table.{Table}
use Rattle.language.specs.Limits.{max_cells, max_letters, max_variables, store_cells}
use Rattle.language.specs.Letters.{letter_index}
use Rattle.language.specs.Values.{lawful}
use Rattle.language.specs.Syntax.{Expr}
use Rattle.language.specs.Reading.{read, expr_of}
use Rattle.language.specs.Layout.{table_of}
use Rattle.language.specs.Effects.{start}
use Rattle.language.specs.Roles.{open_permission, permission_at}
use Rattle.language.specs.Tables.{table_at, stands_at, execute, sound_used, sound_permissions}
use Rattle.book.specs.Calls.{Run, Call, defines, withdraws, runs}
use Rattle.book.specs.declared.Report.{Report}
use Rattle.book.specs.Replies.{Reply, Answered, leaves, replied, reported, tells}
use Rattle.book.specs.Refusals.{View, refusal, answer}

-- "A store holds 26 letters' tables with their used-cell counts, and ten variables": the cells of letter a are those from 250 a on. Document 02, U7:
-- "Each letter's entry in the store gains a mark", which is called a permission here: the marks of a text are other things.
pub record Store : Type 0 where
  pub cells : List ℤ
  pub used : List ℕ
  pub permissions : List ℕ
  pub variables : List ℤ

-- the store of these lists
abbrev pub store_of : List ℤ → List ℕ → List ℕ → List ℤ → Store
store_of c u k v = record { cells = c; used = u; permissions = k; variables = v }

-- "A fresh store has every letter cleared", "ten variables, 0 when fresh"; "a fresh store's marks are open"
unfoldable pub fresh_store : Store
fresh_store =
    record {
      cells = replicate store_cells (pos 0);
      used = replicate max_letters 0;
      permissions = replicate max_letters open_permission;
      variables = replicate max_variables (pos 0);
    }

-- "bad store: a used count neither 0 nor 3 to 250, or a variable outside the values"; "The bad-store test covers a mark with any other value."
unfoldable pub sound_store : Store → Bool
unfolding sound_used sound_permissions lawful
sound_store st = sound_used st.used && sound_permissions st.permissions && lawful st.variables

-- ── one letter's entry ──────────────────────────────────────────────────────────────────────────

-- What a store holds of one letter: its code table with its used-cell count, and its permission.
pub record Entry : Type 0 where
  pub table : Table
  pub permission : ℕ

-- the entry of letter a
abbrev pub entry_at : Store → ℕ → Entry
entry_at st a = record { table = table_at st.cells st.used a; permission = permission_at st.permissions a }

-- the store with another entry of letter a: "The used-cell count is replaced or cleared with the table"
unfoldable pub with_entry : Store → ℕ → Entry → Store
with_entry st a e =
    record {
      cells = paste st.cells (a * max_cells) e.table.cells max_cells;
      used = set st.used a e.table.used;
      permissions = set st.permissions a e.permission;
      variables = st.variables;
    }

-- the entry of a text, or of a cleared letter, with the permission k
abbrev pub entry_of : Option Expr → ℕ → Entry
entry_of x k = record { table = table_of x; permission = k }

-- the store with other variables: "No run changes a table."
unfoldable pub with_variables : Store → List ℤ → Store
with_variables st v = record { cells = st.cells; used = st.used; permissions = st.permissions; variables = v }

-- ── calls ───────────────────────────────────────────────────────────────────────────────────────

-- what a run of a letter that stands answers: "Each run states the caller's role ..", ".. and the role is remembered nowhere afterwards"
unfoldable pub store_ran : Store → Run → Reply
unfolding reported execute start
store_ran st x =
    reported st.variables x.allowance
    (execute st.cells st.used st.permissions x.role (letter_index x.letter) x.allowance (start st.variables x.inputs x.output))

-- A call that is not refused. "Define replaces a letter's table. Withdraw clears it to 0." The mark is "set by define", and "Withdraw clears the mark to
-- open." A run may change the variables.
unfoldable pub store_accepts : Store → Call → Answered Store
unfolding tells with_entry with_variables store_ran read expr_of
store_accepts st (defines l k t) = leaves (with_entry st (letter_index l) (entry_of (expr_of (read t)) k)) (tells 0 (defines l k t) st.variables)
store_accepts st (withdraws l) = leaves (with_entry st (letter_index l) (entry_of none open_permission)) (tells 0 (withdraws l) st.variables)
store_accepts st (runs x) = leaves (with_variables st (store_ran st x).variables) (store_ran st x)

-- what the tests of a call ask of a store
abbrev pub store_view : Store → View
store_view st = record { sound = sound_store st; stands = stands_at st.used; permission = permission_at st.permissions }

-- any call
unfoldable pub store_call : Store → Call → Answered Store
unfolding sound_store refusal answer store_accepts
store_call st c = answer (refusal (store_view st) c) st st.variables c (store_accepts st c)

-- ── what a function of the program returned ─────────────────────────────────────────────────────

-- a define or a withdraw that left the store st and returned the number n alone
abbrev pub changed : Store → ℕ → Call → Answered Store
changed st n c = leaves st (tells n c st.variables)

-- a run that left the store st, the list places p and the output o, and returned the figures r
abbrev pub answered : Store → Report → List ℤ → List ℕ → Answered Store
answered st r p o = leaves st (replied r p o st.variables)

-- Document 02, U7: the marks of letters, called permissions here; the roles of callers; and which letters a caller may not run.
use Rattle.std.specs.Prelude.{ℕ, Bool, ◌&&◌, ◌||◌, List, get_or, eqb}

-- "a mark, set by define: open (0) ..", `OPEN` of src/lib.rt
abbrev pub open_permission : ℕ
open_permission = 0

-- ".. or steward (1)", `STEWARDS`
abbrev pub steward_permission : ℕ
steward_permission = 1

-- "the caller's role, cashier (0) ..", `CASHIER`
abbrev pub cashier_role : ℕ
cashier_role = 0

-- ".. or steward (1)", `STEWARD`
abbrev pub steward_role : ℕ
steward_role = 1

-- the permission of letter a, a as 0, of a list of permissions
abbrev pub permission_at : List ℕ → ℕ → ℕ
permission_at k a = get_or k a open_permission

-- one of the two marks: "bad mark, a mark or role neither of the two"
unfoldable pub is_permission : ℕ → Bool
is_permission k = eqb k open_permission || eqb k steward_permission

-- one of the two roles
unfoldable pub is_role : ℕ → Bool
is_role r = eqb r cashier_role || eqb r steward_role

-- A letter with the permission k is not for a caller with the role r: "Some letters may be run only by a steward."
unfoldable pub bars : ℕ → ℕ → Bool
bars r k = eqb r cashier_role && eqb k steward_permission

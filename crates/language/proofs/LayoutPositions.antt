-- Where marks stand in a table: positions grow along an expression, and false exits lie ahead within it.
use mathlib.Core.Path.{◌≡◌, ◌∙◌}
use Prim.Native.Nat.{ℕ, zero, suc, ◌+◌, ◌≤◌, ◌<◌}
use native.Mathlib.Omega.{arith}
use lib.ListN.{length}
use Rattle.language.specs.Syntax.{Operation, operator, variable, constant, print, Predicate, condition, counter}
use Rattle.language.specs.Syntax.{Expr, close, semi, colon, operate, test, call, inner}
use Rattle.language.specs.Layout.{forward, after_operation, after_predicate, after_call, after_expr, false_exit}

-- n cells on
pub forward-add : (n q : ℕ) → forward n q ≡ q + n
forward-add zero q = omega arith
forward-add (suc n) q = let e : suc q + n ≡ q + suc n = omega arith in forward-add n (suc q) ∙ e

pub forward-le : (n q : ℕ) → q ≤ forward n q
forward-le zero q = omega arith
forward-le (suc n) q = let h : suc q ≤ forward n (suc q) = forward-le n (suc q) in omega arith

pub operation-lt : (o : Operation) (q : ℕ) → q < after_operation o q
operation-lt (operator o) q = omega arith
operation-lt (variable a k) q = omega arith
operation-lt (constant v) q = omega arith
operation-lt (print b) q = let h : suc (suc q) ≤ forward (length b) (suc (suc q)) = forward-le (length b) (suc (suc q)) in omega arith

pub predicate-lt : (p : Predicate) (q : ℕ) → q < after_predicate p q
predicate-lt (condition c) q = omega arith
predicate-lt (counter m k) q = omega arith

pub after-lt : (e : Expr) (q : ℕ) → q < after_expr e q
after-lt close q = omega arith
after-lt (semi e) q = let h = after-lt e (suc q) in omega arith
after-lt (colon e) q = let h = after-lt e (suc q) in omega arith
after-lt (operate o e) q = let h = after-lt e (after_operation o q) in let k = operation-lt o q in omega arith
after-lt (test p e) q = let h = after-lt e (after_predicate p q) in let k = predicate-lt p q in omega arith
after-lt (call a e) q = let h = after-lt e (after_call q) in omega arith
after-lt (inner f e) q = let h = after-lt e (after_expr f q) in let k = after-lt f q in omega arith

pub exit-lt : (e : Expr) (q : ℕ) → q < false_exit e q
exit-lt close q = omega arith
exit-lt (semi e) q = omega arith
exit-lt (colon e) q = omega arith
exit-lt (operate o e) q = let h = exit-lt e (after_operation o q) in let k = operation-lt o q in omega arith
exit-lt (test p e) q = let h = exit-lt e (after_predicate p q) in let k = predicate-lt p q in omega arith
exit-lt (call a e) q = let h = exit-lt e (after_call q) in omega arith
exit-lt (inner f e) q = let h = exit-lt e (after_expr f q) in let k = after-lt f q in omega arith

pub exit-le : (e : Expr) (q : ℕ) → false_exit e q ≤ after_expr e q
exit-le close q = omega arith
exit-le (semi e) q = let h = after-lt e (suc q) in omega arith
exit-le (colon e) q = let h = after-lt e (suc q) in omega arith
exit-le (operate o e) q = exit-le e (after_operation o q)
exit-le (test p e) q = exit-le e (after_predicate p q)
exit-le (call a e) q = exit-le e (after_call q)
exit-le (inner f e) q = exit-le e (after_expr f q)

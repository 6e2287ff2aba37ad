-- `reach` meets its contract.
use mathlib.Core.Path.{◌≡◌, sym, ◌∙◌}
use Rattle.std.proofs.Common.{rules, tests}
use Rattle.std.proofs.lemmas.Iterator.{YieldsList-from_slice}
use Rattle.std.proofs.lemmas.Iterator.Search.{position_from_yields_List}
use Rattle.faircopy.proofs.StepsParts.{is_end, found, reach-found, reach-none}
use Rattle.faircopy.proofs.reach.Goals as goal

pub returns-in-Some : goal.returns-in-Some
returns-in-Some c =
    let f : c.position.result ≡ found c.args.close c.args.text.now = position_from_yields_List (is_end c.args.close) _ _ c.position.result c.position.ensures.ran (YieldsList-from_slice c.args.text.now cc) (λ x b q k. search (rules, tests)) in
    reach-found c.args.close c.args.text.now _ (sym f ∙ c.in-Some.is)

pub returns-in-None : goal.returns-in-None
returns-in-None c =
    let f : c.position.result ≡ found c.args.close c.args.text.now = position_from_yields_List (is_end c.args.close) _ _ c.position.result c.position.ensures.ran (YieldsList-from_slice c.args.text.now cc) (λ x b q k. search (rules, tests)) in
    reach-none c.args.close c.args.text.now (sym f ∙ c.in-None.is)

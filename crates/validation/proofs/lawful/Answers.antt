-- `validation::lawful` meets its contract.
use Rattle.std.proofs.Common.{refl, ◌∙◌, ◌&&◌, rules, tests}
use Rattle.std.specs.List.{list_all}
use Rattle.std.proofs.lemmas.Iterator.{YieldsList-from_slice}
use Rattle.std.proofs.lemmas.Iterator.Search.{all_from_yields_List}
use Rattle.std.proofs.lemmas.List.Recursion.{same_from_clauses}
use Rattle.language.specs.Values.{is_value, lawful}
use Rattle.validation.proofs.lawful.Goals as goal

pub returns : goal.returns
unfolding lawful
returns c =
    let xs = c.args.values.now in
    all_from_yields_List is_value _ _ _ c.all.ensures.ran (YieldsList-from_slice xs cc) (λ x b q k. search (rules, tests))
    ∙ same_from_clauses (list_all is_value) lawful (λ x b. is_value x && b) refl (λ _ _. refl) (λ _ _. refl) xs

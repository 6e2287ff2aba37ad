-- `validation::sound_used` meets its contract.
use Rattle.std.proofs.Common.{refl, ◌∙◌, ◌&&◌, rules, tests}
use Rattle.std.specs.List.{list_all}
use Rattle.std.proofs.lemmas.Iterator.{YieldsList-from_slice}
use Rattle.std.proofs.lemmas.Iterator.Search.{all_from_yields_List}
use Rattle.std.proofs.lemmas.List.Recursion.{same_from_clauses}
use Rattle.language.specs.Tables.{sound_count, sound_used}
use Rattle.validation.proofs.sound_used.Goals as goal

pub returns : goal.returns
unfolding sound_used
returns c =
    let xs = c.args.used.now in
    all_from_yields_List sound_count _ _ _ c.all.ensures.ran (YieldsList-from_slice xs cc) (λ x b q k. search (rules, tests))
    ∙ same_from_clauses (list_all sound_count) sound_used (λ x b. sound_count x && b) refl (λ _ _. refl) (λ _ _. refl) xs

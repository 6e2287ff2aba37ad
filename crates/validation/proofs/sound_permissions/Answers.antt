-- `validation::sound_permissions` meets its contract.
use Rattle.std.proofs.Common.{refl, ◌∙◌, ◌&&◌, rules, tests}
use Rattle.std.specs.List.{list_all}
use Rattle.std.proofs.lemmas.Iterator.{YieldsList-from_slice}
use Rattle.std.proofs.lemmas.Iterator.Search.{all_from_yields_List}
use Rattle.std.proofs.lemmas.List.Recursion.{same_from_clauses}
use Rattle.language.specs.Roles.{is_permission}
use Rattle.language.specs.Tables.{sound_permissions}
use Rattle.validation.proofs.sound_permissions.Goals as goal

pub returns : goal.returns
unfolding sound_permissions
returns c =
    let xs = c.args.permissions.now in
    all_from_yields_List is_permission _ _ _ c.all.ensures.ran (YieldsList-from_slice xs cc) (λ x b q k. search (rules, tests))
    ∙ same_from_clauses (list_all is_permission) sound_permissions (λ x b. is_permission x && b) refl (λ _ _. refl) (λ _ _. refl) xs

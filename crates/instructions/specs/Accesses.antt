-- The accesses `F` and `S`, as the code has them.
use Rattle.language.specs.Syntax.{Access as Mark, fetch, save}
use Rattle.instructions.specs.declared.stack.Access.{Access}
use Rattle.instructions.specs.declared.stack.Access.TheVariants.{Fetch, Save}

-- which mark it is
abbrev pub access_of : Access → Mark
access_of Fetch = fetch
access_of Save = save

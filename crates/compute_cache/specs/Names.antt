-- Names of classes.
use Rattle.std.specs.Prelude.{ℕ, Bool, List, ⊤, nat_eq}
use lib.Pointwise.{pointwise}
use Rattle.compute_cache.specs.declared.error.CacheError.{CacheError}
use Rattle.compute_cache.specs.declared.error.CacheError.TheVariants.{NameTaken, ClassesFull, Memory, NotRegistered, Pending, NotCached}

-- the same bytes
abbrev pub is_name : List ℕ → List ℕ → Bool
is_name name other = pointwise nat_eq other name

-- why a name may be refused
abbrev pub IsRegisterCause : CacheError → Type 0
IsRegisterCause (NameTaken id) = ⊤
IsRegisterCause ClassesFull = ⊤
IsRegisterCause Memory = ⊤
IsRegisterCause (NotRegistered class) = ⊥
IsRegisterCause (Pending owner at) = ⊥
IsRegisterCause (NotCached at) = ⊥

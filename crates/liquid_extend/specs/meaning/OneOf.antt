-- What contracts see of one of two types.
use Rattle.liquid_extend.specs.declared.beside.one_of.Beside.{Beside}
use Rattle.liquid_extend.specs.declared.beside.one_of.Beside.TheVariants.{Library, Own}

-- each as its own type is seen
abbrev pub shape_beside : {L O S T : Type 0} → (L → S) → (O → T) → Beside L O → Beside S T
shape_beside library own (Library x) = Library (library x)
shape_beside library own (Own x) = Own (own x)

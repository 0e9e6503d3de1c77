-- Document 01's starred examples hold. Assumes nothing.
use mathlib.Core.Path.{refl}
use Rattle.examples.specs.Table.{example_table, Right}

pub examples : Right example_table
examples = (refl, (refl, (refl, (refl, (refl, (refl, (refl, (refl, (refl, (refl, (refl, (refl, tt))))))))))))

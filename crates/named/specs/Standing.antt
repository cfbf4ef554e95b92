-- What a field that is chosen while the program runs owes, by what each make owes.
-- Assumes nothing.
use Rattle.std.specs.Prelude.{◌≡◌, ℕ, true}
use Rattle.algebra.specs.Meaning.{Meaning, Shape, Laws}
use Rattle.algebra.specs.Tower.{tower}
use Rattle.algebra.proofs.Shift.{shift_shape, shift_laws}
use Rattle.algebra.proofs.PowerTable.{power_table_shape, power_table_laws}
use Rattle.algebra.proofs.Tower.{tower_shape, tower_laws}
use Rattle.named.specs.declared.ground.Ground.{Ground}
use Rattle.named.specs.declared.ground.Ground.TheVariants.{OfShift, OfTable}
use Rattle.named.specs.declared.storey.Storey.{Storey}
use Rattle.named.specs.declared.storey.Storey.TheVariants.{Zero, One, Two, Three}
use Rattle.named.specs.Makes.{ground, storey}

pub ground_shape : (f : Ground) → Shape (ground f)
ground_shape (OfShift s) = shift_shape s.number
ground_shape (OfTable t) = power_table_shape t.number t.generator

pub ground_laws : (f : Ground) → (ground f).sound ≡ true → Laws (ground f)
ground_laws (OfShift s) = shift_laws s.number
ground_laws (OfTable t) = power_table_laws t.number t.generator

-- one tower more
one_up : (M : Meaning) (c : ℕ) → Shape M × (M.sound ≡ true → Laws M) → Shape (tower M c) × ((tower M c).sound ≡ true → Laws (tower M c))
one_up M c o = (tower_shape M o.0 c, tower_laws M o.0 c o.1)

pub storey_owed : (f : Storey) → Shape (storey f) × ((storey f).sound ≡ true → Laws (storey f))
storey_owed (Zero f) = (ground_shape f, ground_laws f)
storey_owed (One t) = one_up (ground t.base) t.c (ground_shape t.base, ground_laws t.base)
storey_owed (Two t) =
    let f = t.base.base in
    one_up (tower (ground f) t.base.c) t.c (one_up (ground f) t.base.c (ground_shape f, ground_laws f))
storey_owed (Three t) =
    let f = t.base.base.base in
    let first = tower (ground f) t.base.base.c in
    one_up (tower first t.base.c) t.c (one_up first t.base.c (one_up (ground f) t.base.base.c (ground_shape f, ground_laws f)))

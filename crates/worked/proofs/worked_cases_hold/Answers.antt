use mathlib.Core.Path.{refl}
use mathlib.Core.Bool.{xor}
use Rattle.algebra.specs.Tuples.{plus, scale, zeros, up, last, times_x, times}
use Rattle.algebra.specs.Polynomials.{poly_sum, poly_product}
use Rattle.algebra.specs.Meaning.{low_bits, operations, dead}
use Rattle.algebra.specs.Exponent.{units, inverse_exponent}
use Rattle.algebra.specs.Search.{some_below, first_from}
use Rattle.algebra.specs.Bits.{two, bits, number}
use Rattle.algebra.specs.Shift.{binary_product, highest_bit, degree, splits, shift_product, in_range, shift_by, shift}
use Rattle.algebra.specs.Operations.{power}
use Rattle.algebra.specs.PowerTable.{places, entry, logarithm, stands, table_product, full, table_by, power_table}
use Rattle.algebra.specs.Tower.{pair, tower_product, has_root, tower_by, tower}
use Rattle.worked.specs.Cases.{all_yield, yields, differ, same_block, four, sixteen, cases}
use Rattle.worked.proofs.worked_cases_hold.Goals as goal

pub returns : goal.returns
unfolding operations power places entry logarithm stands table_product full table_by power_table units inverse_exponent first_from plus scale zeros up last times_x times poly_sum poly_product low_bits dead some_below two bits number xor binary_product highest_bit degree splits shift_product in_range shift_by shift pair tower_product has_root tower_by tower all_yield yields differ same_block four sixteen cases
returns c = refl

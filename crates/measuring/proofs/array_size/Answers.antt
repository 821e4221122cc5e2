-- `measuring::array_size` meets its contract. Assumes nothing.
use Rattle.measuring.proofs.Sizes.{elements-fit, elements-small, front_fits}
use Rattle.measuring.proofs.array_size.Goals as goal

pub overflow_mul-n : goal.overflow_mul-n
overflow_mul-n c = search elements-fit

pub pad_size-requires : goal.pad_size-requires
pad_size-requires c = search elements-small

pub overflow_add-result-2 : goal.overflow_add-result-2
overflow_add-result-2 c = search front_fits

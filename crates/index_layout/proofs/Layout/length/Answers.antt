-- `index_layout::Layout::length`: pages, last keys, hashes and the footer.
use mathlib.Core.Path.{refl}
use Prim.Native.Nat.{◌+◌}
use native.Mathlib.Omega.{arith}
use Rattle.index_layout.proofs.Laws.{bound}
use Rattle.index_layout.specs.Layout.{index_length_of}
use Rattle.index_layout.proofs.Layout.length.Goals as goal

pub overflow_mul-result : goal.overflow_mul-result
overflow_mul-result c = omega (
  arith,
  bound c.args.self.pages (4096 + c.args.self.key_length + 8) 4294967295 4359
      (omega arith) (omega arith),
)

pub overflow_add-result-3 : goal.overflow_add-result-3
overflow_add-result-3 c = omega (
  arith,
  bound c.args.self.pages
      (4096 + c.args.self.key_length + 8) 4294967295 4359 (omega arith) (omega arith),
)

pub returns : goal.returns
unfolding index_length_of
returns c = refl

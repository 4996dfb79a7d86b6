-- Pairs of digits are half as many bytes.
use Rattle.co_dict_build.proofs.Pairs.{length-decoded}
use Rattle.co_dict_build.proofs.capacity.default_len.Goals as goal

pub returns-in-Pairs : goal.returns-in-Pairs
returns-in-Pairs c = rw c.in-Pairs.is (length-decoded c.in-Pairs.digits.now)

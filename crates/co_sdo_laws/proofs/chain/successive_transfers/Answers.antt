use Rattle.co_sdo_laws.proofs.Chains.{all_end, chain_in_rounds}
use Rattle.co_sdo_laws.proofs.chain.successive_transfers.Goals as goal

pub returns : goal.returns
returns c = record {
  done = λ server transfers chain. (all_end server transfers chain.ready chain.permitted chain.whole).done;
  contents = λ server transfers chain. (all_end server transfers chain.ready chain.permitted chain.whole).contents;
  values = λ server transfers chain. (all_end server transfers chain.ready chain.permitted chain.whole).values;
  ready = λ server transfers chain. (all_end server transfers chain.ready chain.permitted chain.whole).ready;
  rounds = chain_in_rounds;
}

use Rattle.co_node_laws.specs.Served.{IsServed}
use Rattle.co_node.proofs.built_laws.permitted_download_completes.Goals as goal

pub returns : goal.returns
returns c = λ k node before key bytes mode stands p few.
    let served : IsServed k before key bytes = record {
      dictionary = c.stands_on_dictionary.ensures k node before stands;
      running = p.running;
      idle = p.idle;
      index = p.index;
      few = few;
      permitted = p.permitted;
    } in
    record {
      done = c.built_download_ends.ensures.done p.plan k before key bytes mode p.built served p.segmented;
      requests = c.built_download_ends.ensures.requests p.plan k before key bytes mode p.built served p.segmented;
      entry = c.built_download_ends.ensures.entry p.plan k before key bytes mode p.built served p.segmented;
    }

use Rattle.batch_pool.specs.Queues.{view_of}
use Rattle.batch_pool.proofs.Running.{if_ok_as, run_from_start}
use Rattle.batch_pool.proofs.worker.run_worker.Goals as goal

-- it had taken nothing before
pub returns : goal.returns
returns g c =
    let done = c.run_until_empty-ran.ensures in
    record {
      returned = record {
        its = done.stays.its;
        number = c.requires.number;
        ran = if_ok_as _ _ (λ ran. run_from_start _ _ (view_of c.args.worker.pass) (view_of c.run_until_empty-ran.new.pass) ran.items
            c.requires.none_taken) _ done.ran;
      };
      pass = done.stays;
    }

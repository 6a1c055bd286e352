-- What a life begins with.
use Rattle.std.proofs.Common.{◌≡◌, [], refl}
use Rattle.store_model.specs.Along.{along}
use Rattle.wal_record.specs.Books.{maintenance_book}

pub no_object : maintenance_book [] ≡ 0
unfolding maintenance_book along
no_object = refl

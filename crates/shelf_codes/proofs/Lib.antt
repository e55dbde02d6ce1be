pub mod Said
pub mod SalvagedBack

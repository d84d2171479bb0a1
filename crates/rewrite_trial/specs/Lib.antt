-- What writing a drill file again promises.
pub mod Again

pub mod ReservationObjects

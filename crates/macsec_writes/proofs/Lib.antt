pub mod OnTheWay
